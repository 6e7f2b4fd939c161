-- The way by which a frame comes in.
use Rattle.cip_chassis.specs.declared.topology.Arrival.{Arrival}
use Rattle.cip_chassis.specs.Nodes.{Way}

abbrev pub way_of : Arrival → Way
way_of a = record { at = a.at.0; port = a.port; address = a.from.now }
