use Rattle.std.proofs.Common.{◌≡◌, drop}
use Rattle.cip_topology.specs.PortTables.{link_from}
use Rattle.cip_topology.proofs.port_tables.linked.Given as goal

abbrev pub invariant-loop-place : goal.invariant-loop-place
invariant-loop-place l = link_from l.place (drop l.place l.links) l.name ≡ link_from 0 l.links l.name
