use Rattle.std.proofs.Common.{arith, append_assoc}
use Rattle.cip_text.proofs.Numbers.{decimal_pair}
use Rattle.cip_text.proofs.line.short.Goals as goal

pub returns-clause-text : goal.returns-clause-text
returns-clause-text c =
    rw (decimal_pair c.args.number c.if-number-lt100.false (omega arith), ← append_assoc, ← c.few-next.ensures.text) c.pair.ensures.text
