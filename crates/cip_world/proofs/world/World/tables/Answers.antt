use Rattle.std.proofs.Common.{◌≡◌, Some, subst}
use Rattle.std.specs.Prelude.{slice_get}
use Rattle.cip_world.proofs.StepAt.{at_place}
use Rattle.cip_world.proofs.Ran.{shown_at}
use Rattle.cip_world.proofs.world.World.tables.Goals as goal

pub returns-clause-ok : goal.returns-clause-ok
returns-clause-ok g c =
    let found = c.in-Some.ensures.lookup in
    shown_at c.args.self.now.ledger (λ b. (goal.Module-dyn g (b.vtable, b.value)).config_of b.value)
    (λ b. (goal.Module-dyn g (b.vtable, b.value)).state_of b.value)
    c.args.self.now.modules.items c.args.at.0 c.in-Some.boxed.now c.in_ok-tables.field-0 c.requires.stand
    (subst (λ bs. slice_get bs c.args.at.0 ≡ Some c.in-Some.boxed.now) c.deref.ensures.value
    (at_place c.deref.result.now c.args.at.0 c.in-Some.boxed.now found.3.0 found.1))
    c.in_ok-tables.ensures
