use Rattle.std.proofs.Common.{◌≡◌, length, false}
use Rattle.cip_world.specs.Spots.{names_in, AreInOrder, is_last_gone}
use Rattle.cip_world.proofs.names.give_up_first.Given as goal

abbrev pub invariant-loop-spots : goal.invariant-loop-spots
invariant-loop-spots l =
    AreInOrder l.spots.items × (names_in l.spots.items ≡ names_in l.initial.spots.items) × (is_last_gone l.spots.items ≡ false)

abbrev pub decreases-loop-spots : goal.decreases-loop-spots
decreases-loop-spots l = length l.spots.items
