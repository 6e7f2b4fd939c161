use Rattle.std.proofs.Common.{◌≡◌, length, drop, [], arith, sym, ap, ◌∙◌, Ok, append-nil}
use Rattle.std.proofs.lemmas.List.{drop_all}
use Rattle.cip_tool.specs.Words.{texts}
use Rattle.cip_tool.specs.Routes.{before, words_from}
use Rattle.cip_tool.proofs.Routed.{read_all}
use Rattle.cip_tool.proofs.reading.read_words.Goals as goal

pub returns-clause-gives : goal.returns-clause-gives
returns-clause-gives c = read_all c.reading.at c.args.words.now c.reading.found.items _ (omega arith) c.reading.invariant.read
