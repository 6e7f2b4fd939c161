use Rattle.std.proofs.Common.{◌-◌, ◌≤◌, length}
use Rattle.cip_chassis.specs.Seats.{spot}
use Rattle.cip_chassis.proofs.Seating.{IsAboveAll, IsBelowAt}
use Rattle.cip_chassis.proofs.seats.place_of.Given as goal

abbrev pub invariant-loop-low : goal.invariant-loop-low
invariant-loop-low l =
    (l.low ≤ l.high) × (l.high ≤ length l.seats) × IsAboveAll l.seats (spot l.link l.address) l.low × IsBelowAt l.seats (spot l.link l.address) l.high

abbrev pub decreases-loop-low : goal.decreases-loop-low
decreases-loop-low l = l.high - l.low
