use Rattle.std.proofs.Common.{arith, append_assoc}
use Rattle.cip_text.proofs.Numbers.{decimal_long}
use Rattle.cip_text.proofs.line.long.Goals as goal

pub returns-clause-text : goal.returns-clause-text
returns-clause-text c =
    rw (decimal_long c.args.number (omega arith) (omega arith), ← append_assoc, ← c.short-next.ensures.text) c.four.ensures.text
