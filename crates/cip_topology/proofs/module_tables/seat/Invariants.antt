use Rattle.std.proofs.Common.{◌≡◌, drop}
use Rattle.cip_chassis.specs.Seats.{AreFree, all_seated}
use Rattle.cip_topology.proofs.module_tables.seat.Given as goal

abbrev pub invariant-loop-port : goal.invariant-loop-port
invariant-loop-port l =
    AreFree l.at (drop l.port-index l.ports) l.seats
    × (all_seated l.at (drop l.port-index l.ports) l.seats ≡ all_seated l.at l.ports l.initial.seats)
