use Rattle.std.proofs.Common.{◌≡◌, [], drop, vec_items}
use Rattle.toml.specs.View.{items_view}
use Rattle.cip_chassis.specs.Seats.{IsIndexOf}
use Rattle.cip_topology.specs.ModuleTables.{modules_after}
use Rattle.cip_topology.proofs.module_tables.modules.Given as goal

abbrev pub invariant-loop-entry : goal.invariant-loop-entry
invariant-loop-entry l =
    (modules_after l.links (vec_items l.modules) (items_view (drop l.entry-index l.entries)) ≡ modules_after l.links [] (items_view l.entries))
    × IsIndexOf (vec_items l.modules) l.seats
