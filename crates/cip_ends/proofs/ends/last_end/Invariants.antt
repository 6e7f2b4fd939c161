use Rattle.std.proofs.Common.{◌≤◌}
use Rattle.cip_ends.specs.Ends.{HasNoEnd}
use Rattle.cip_ends.proofs.ends.last_end.Given as goal

abbrev pub decreases-loop-left : goal.decreases-loop-left
decreases-loop-left l = l.left

abbrev pub invariant-loop-left : goal.invariant-loop-left
invariant-loop-left l = (l.left ≤ l.to) × HasNoEnd l.journal l.module_.0 l.number l.left l.to
