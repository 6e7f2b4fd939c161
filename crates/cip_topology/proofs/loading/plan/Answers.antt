use Rattle.std.proofs.Common.{◌≡◌, List, [], Ok, sym, subst, arith}
use Rattle.toml.specs.View.{items_view}
use Rattle.cip_chassis.specs.declared.links.Link.{Link}
use Rattle.cip_chassis.specs.Plan.{AreLinks}
use Rattle.cip_topology.specs.ModuleTables.{modules_after}
use Rattle.cip_topology.proofs.Entries.{item_count-items_view}
use Rattle.cip_topology.proofs.TopologyKept.{are_links, is_topology}
use Rattle.cip_topology.proofs.loading.plan.Goals as goal

pub modules-requires : goal.modules-requires
modules-requires c =
    subst AreLinks (sym c.as_slice.ensures.value) (are_links (items_view c.args.link_entries.now) c.in_ok-links.links.items c.in_ok-links.ensures)

pub of-requires-clause-keeps : goal.of-requires-clause-keeps
of-requires-clause-keeps c =
    let links = c.in_ok-links.links.items in
    let modules = c.in_ok-modules.modules.items in
    let read = subst (λ (ls : List Link). modules_after ls [] (items_view c.args.module_entries.now) ≡ Ok modules)
    c.as_slice.ensures.value c.in_ok-modules.ensures.is in
    let link_count = item_count-items_view c.args.link_entries.now in
    let module_count = item_count-items_view c.args.module_entries.now in
    is_topology (items_view c.args.link_entries.now) (items_view c.args.module_entries.now) links modules c.in_ok-links.ensures read
    (omega (arith, link_count, c.requires.some_links)) (omega (arith, link_count, c.requires.few_links))
    (omega (arith, module_count, c.requires.some_modules)) (omega (arith, module_count, c.requires.few_modules))
