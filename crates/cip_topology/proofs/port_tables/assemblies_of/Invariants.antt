use Rattle.std.proofs.Common.{◌≡◌, [], drop, vec_items}
use Rattle.toml.specs.View.{items_view}
use Rattle.cip_topology.specs.PortTables.{assemblies_after}
use Rattle.cip_topology.proofs.port_tables.assemblies_of.Given as goal

abbrev pub invariant-loop-entry : goal.invariant-loop-entry
invariant-loop-entry l =
    assemblies_after l.place (vec_items l.assemblies) (items_view (drop l.entry-index l.entries)) ≡ assemblies_after l.place [] (items_view l.entries)
