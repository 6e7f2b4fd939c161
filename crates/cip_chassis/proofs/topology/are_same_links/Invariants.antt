use Rattle.std.proofs.Common.{◌≡◌, take}
use Rattle.cip_chassis.proofs.topology.are_same_links.Given as goal

abbrev pub invariant-loop-i : goal.invariant-loop-i
invariant-loop-i l = take l.i l.left ≡ take l.i l.right
