use Rattle.std.proofs.Common.{arith}
use Rattle.cip_tool.proofs.Digits.{DIGITS_at}
use Rattle.cip_tool.proofs.numbers.digit.Goals as goal

pub returns : goal.returns
returns c = DIGITS_at c.args.byte (omega arith)
