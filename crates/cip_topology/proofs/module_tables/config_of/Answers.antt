use Rattle.std.proofs.Common.{◌≡◌, true, false}
use Rattle.toml.specs.View.{view}
use Rattle.cip_topology.proofs.ModulesKept.{module_new}
use Rattle.cip_topology.proofs.module_tables.config_of.Goals as goal

pub unreachable-requires : goal.unreachable-requires
unreachable-requires c =
    let new = module_new c.args.number c.args.links.now c.args.modules.now (view c.args.entry.now) c.in_ok-settings.settings
    c.requires.links c.in_ok-settings.ensures in
    let no : false ≡ true = c.in-None.ensures.legal.1 new.legal in cc
