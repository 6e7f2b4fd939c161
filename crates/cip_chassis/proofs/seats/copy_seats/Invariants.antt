use Rattle.std.proofs.Common.{◌≡◌, take}
use Rattle.cip_chassis.proofs.seats.copy_seats.Given as goal

abbrev pub invariant-loop-seated : goal.invariant-loop-seated
invariant-loop-seated l = l.copies.items ≡ take l.seated-index l.seats
