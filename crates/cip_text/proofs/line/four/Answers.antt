use Rattle.std.proofs.Common.{append_assoc}
use Rattle.cip_text.proofs.Numbers.{four_pairs}
use Rattle.cip_text.proofs.line.four.Goals as goal

pub returns-clause-text : goal.returns-clause-text
returns-clause-text c = rw (← four_pairs c.args.number c.requires.0, ← append_assoc, ← c.pair-last.ensures.text) c.pair.ensures.text
