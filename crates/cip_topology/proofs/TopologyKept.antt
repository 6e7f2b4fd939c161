-- What is read is a topology.
use Rattle.std.proofs.Common.{◌≡◌, ◌≤◌, List, [], Ok, arith}
use Rattle.toml.specs.Data.{Items}
use Rattle.cip_config.specs.declared.config.ModuleSettings.{ModuleSettings}
use Rattle.cip_chassis.specs.declared.links.Link.{Link}
use Rattle.cip_chassis.specs.Plan.{AreLinks, IsTopology}
use Rattle.cip_topology.specs.Keys.{item_count}
use Rattle.cip_topology.specs.LinkTables.{links_after}
use Rattle.cip_topology.specs.ModuleTables.{modules_after}
use Rattle.cip_topology.proofs.LinksKept.{no_links, links_kept}
use Rattle.cip_topology.proofs.ModulesKept.{no_modules, modules_kept}

pub are_links : (ds : Items) (ls : List Link) → links_after [] ds ≡ Ok ls → AreLinks ls
are_links ds ls h = (links_kept [] ds ls no_links h).0.are

-- links and modules that were read of so many tables
pub is_topology : (ds es : Items) (ls : List Link) (ms : List ModuleSettings) → links_after [] ds ≡ Ok ls → modules_after ls [] es ≡ Ok ms
    → 1 ≤ item_count ds → item_count ds ≤ 32 → 1 ≤ item_count es → item_count es ≤ 64 → IsTopology (record { links = ls; modules = ms })
is_topology ds es ls ms h g some_links few_links some_modules few_modules =
    let links = links_kept [] ds ls no_links h in
    let modules = modules_kept ls [] es ms links.0.are (no_modules ls) g in
    let link_count = links.1 in
    let module_count = modules.1 in
    record {
      some_links = omega (arith, link_count, some_links);
      few_links = omega (arith, link_count, few_links);
      links = links.0.are;
      link_names = links.0.names;
      some_modules = omega (arith, module_count, some_modules);
      few_modules = omega (arith, module_count, few_modules);
      modules = modules.0.legal;
      names = modules.0.names;
      originators = modules.0.originators;
      on_links = modules.0.on_links;
      addresses = modules.0.addresses;
    }
