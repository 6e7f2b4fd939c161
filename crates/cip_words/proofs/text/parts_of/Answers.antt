use Rattle.std.proofs.Common.{rules}
use Rattle.std.proofs.lemmas.Iterator.Consumers.{map_from_collect}
use Rattle.std.proofs.lemmas.Iterator.Splits.{YieldsList-from_slice_split}
use Rattle.cip_words.specs.Shown.{is_newline}
use Rattle.cip_words.proofs.text.parts_of.Goals as goal

pub returns : goal.returns
returns c =
    let s = c.split.ensures in
    map_from_collect _ c.collect.ensures.ran
    (YieldsList-from_slice_split _ is_newline c.args.text.now s.rest s.done s.closure (λ x b q called. (search rules, search rules)))
