use Rattle.std.proofs.Common.{arith, append_assoc}
use Rattle.cip_text.proofs.Numbers.{decimal_wide}
use Rattle.cip_text.proofs.line.wide.Goals as goal

pub returns-clause-text : goal.returns-clause-text
returns-clause-text c =
    rw (decimal_wide c.args.number (omega arith) (omega arith), ← append_assoc, ← append_assoc, ← c.few-next.ensures.text, ← c.four-last.ensures.text)
    c.four.ensures.text
