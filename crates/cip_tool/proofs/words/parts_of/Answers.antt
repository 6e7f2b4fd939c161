use Rattle.std.proofs.lemmas.Iterator.Consumers.{map_from_collect}
use Rattle.std.proofs.lemmas.Iterator.Splits.{YieldsList-from_str_split}
use Rattle.cip_tool.proofs.words.parts_of.Goals as goal

pub returns : goal.returns
returns c =
    let s = c.split.ensures in
    map_from_collect _ c.collect.ensures.ran (YieldsList-from_str_split c.args.at c.args.text.now c.requires s.text s.has_more s.pattern)
