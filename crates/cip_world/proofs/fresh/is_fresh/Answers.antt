use Rattle.std.proofs.Common.{subst}
use Rattle.std.specs.Prelude.{IfOk, IsTrue, ◌↔◌}
use Rattle.cip_config.specs.declared.config.ModuleSettings.{ModuleSettings}
use Rattle.cip_routing.specs.State.{initial_state}
use Rattle.cip_routing.specs.Views.{ShowsState}
use Rattle.cip_world.proofs.Freshness.{fresh_just}
use Rattle.cip_world.proofs.fresh.is_fresh.Goals as goal

pub returns : goal.returns
returns g c =
    fresh_just ((goal.Module-dyn g (c.args.boxed.now.vtable, c.args.boxed.now.value)).config_of c.args.boxed.now.value)
    ((goal.Module-dyn g (c.args.boxed.now.vtable, c.args.boxed.now.value)).state_of c.args.boxed.now.value)
    c.in_ok-tables.tables c.are_initial.result c.in_ok-tables.ensures
    ((goal.Module-dyn g (c.args.boxed.now.vtable, c.args.boxed.now.value)).rooms c.args.boxed.now.value)
    ((goal.Module-dyn g (c.args.boxed.now.vtable, c.args.boxed.now.value)).paired c.args.boxed.now.value)
    (subst (λ (config : ModuleSettings). IfOk c.are_initial.result (λ first. IsTrue first ↔ ShowsState (initial_state config) c.in_ok-tables.tables))
    c.config.ensures c.are_initial.ensures)
