use Rattle.std.proofs.Common.{arith}
use Rattle.cip_drawing.proofs.BandLaws.{front_stays}
use Rattle.cip_drawing.proofs.areas.Areas.cost_of_lines.Goals as goal

pub returns-then-limit-cost : goal.returns-then-limit-cost
returns-then-limit-cost c =
    let lines = c.args.self.now.lines.items in
    let over = front_stays lines c.args.area c.args.limit c.ranges.limit.fits c.args.passings.now c.loop-i.i c.args.before
    (rw c.loop-i.invariant at c.if-limit-cost.true) in
    ((λ below. absurd (omega (arith, below, over))), (λ h. c.if-limit-cost.true))
