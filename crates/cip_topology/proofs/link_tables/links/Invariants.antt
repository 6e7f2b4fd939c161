use Rattle.std.proofs.Common.{◌≡◌, [], drop, vec_items}
use Rattle.toml.specs.View.{items_view}
use Rattle.cip_topology.specs.LinkTables.{links_after}
use Rattle.cip_topology.proofs.link_tables.links.Given as goal

abbrev pub invariant-loop-entry : goal.invariant-loop-entry
invariant-loop-entry l = links_after (vec_items l.links) (items_view (drop l.entry-index l.entries)) ≡ links_after [] (items_view l.entries)
