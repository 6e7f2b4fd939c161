use Rattle.std.proofs.Common.{◌≡◌, take}
use Rattle.cip_drawing.specs.Bands.{lines_cost}
use Rattle.cip_drawing.proofs.areas.Areas.cost_of_lines.Given as goal

abbrev pub invariant-loop-i : goal.invariant-loop-i
invariant-loop-i l = l.cost ≡ lines_cost l.self.lines.items l.area (take l.i l.passings) l.before
