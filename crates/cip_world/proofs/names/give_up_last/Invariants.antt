use Rattle.std.proofs.Common.{◌≡◌, length}
use Rattle.cip_world.specs.Spots.{names_in, AreInOrder}
use Rattle.cip_world.proofs.names.give_up_last.Given as goal

abbrev pub invariant-loop-spots : goal.invariant-loop-spots
invariant-loop-spots l = AreInOrder l.spots.items × (names_in l.spots.items ≡ names_in l.initial.spots.items)

abbrev pub decreases-loop-spots : goal.decreases-loop-spots
decreases-loop-spots l = length l.spots.items
