use Rattle.std.proofs.Common.{◌≤◌, length}
use Rattle.cip_ends.specs.Names.{HasNone}
use Rattle.cip_ends.proofs.names.older.Given as goal

abbrev pub decreases-loop-left : goal.decreases-loop-left
decreases-loop-left l = l.left

abbrev pub invariant-loop-left : goal.invariant-loop-left
invariant-loop-left l = (l.left ≤ l.to) × HasNone l.ops l.name l.at l.left (length l.ops)
