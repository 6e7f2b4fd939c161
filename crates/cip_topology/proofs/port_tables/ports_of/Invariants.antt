use Rattle.std.proofs.Common.{◌≡◌, [], drop, vec_items}
use Rattle.toml.specs.View.{items_view}
use Rattle.cip_topology.specs.PortTables.{ports_after}
use Rattle.cip_chassis.specs.Seats.{is_seated}
use Rattle.cip_topology.proofs.port_tables.ports_of.Given as goal

abbrev pub invariant-loop-entry : goal.invariant-loop-entry
invariant-loop-entry l =
    ports_after l.place l.links (is_seated l.seats) (vec_items l.ports) (items_view (drop l.entry-index l.entries))
    ≡ ports_after l.place l.links (is_seated l.seats) [] (items_view l.entries)
