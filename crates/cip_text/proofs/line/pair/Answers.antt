use Rattle.std.proofs.Common.{arith}
use Rattle.cip_text.proofs.Digits.{take_two_writes}
use Rattle.cip_text.proofs.Numbers.{TENS_at}
use Rattle.cip_text.proofs.line.pair.Goals as goal

pub returns-clause-text : goal.returns-clause-text
returns-clause-text c =
    let p = TENS_at c.args.number (omega arith) in
    rw (p.0, p.1) (take_two_writes c.args.room.now c.args.at _ _ (omega arith))
