use Rattle.std.proofs.lemmas.Fmt.{decimal_digit}
use Rattle.cip_text.proofs.Numbers.{decimal_two}
use Rattle.std.proofs.Common.{arith}
use Rattle.cip_text.proofs.line.few.Goals as goal

pub returns-then-number-lt10-clause-text : goal.returns-then-number-lt10-clause-text
returns-then-number-lt10-clause-text c = rw (decimal_digit c.args.number c.if-number-lt10.true) c.byte.ensures.text

pub returns-clause-text : goal.returns-clause-text
returns-clause-text c = rw (decimal_two c.args.number c.if-number-lt10.false (omega arith)) c.pair.ensures.text
