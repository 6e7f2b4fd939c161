use Rattle.std.proofs.Common.{◌≡◌, length}
use Rattle.cip_chassis.proofs.seats.places_noted.Given as goal

abbrev pub invariant-loop-place : goal.invariant-loop-place
invariant-loop-place l = length l.noted ≡ 256
