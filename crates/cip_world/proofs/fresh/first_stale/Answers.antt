use Rattle.cip_world.proofs.Freshness.{stale_at, all_fresh}
use Rattle.cip_world.proofs.StepAt.{at_place}
use Rattle.cip_world.proofs.fresh.first_stale.Goals as goal

pub returns-then-not-branch-clause-some : goal.returns-then-not-branch-clause-some
returns-then-not-branch-clause-some g c =
    stale_at (λ b. (goal.Module-dyn g (b.vtable, b.value)).state_of b.value)
    (λ b. (goal.Module-dyn g (b.vtable, b.value)).config_of b.value) c.args.modules.now c.loop-m.m
    c.loop-m.invariant c.index-modules-m.result
    (at_place c.args.modules.now c.loop-m.m c.index-modules-m.result c.loop-m-test.true c.index-modules-m.is)
    (λ e. let yes_ = c.in_ok-is_fresh.ensures.1 e in let no_ = c.if-not-branch.true in cc)

pub returns-clause-none : goal.returns-clause-none
returns-clause-none g c =
    all_fresh (λ b. (goal.Module-dyn g (b.vtable, b.value)).state_of b.value)
    (λ b. (goal.Module-dyn g (b.vtable, b.value)).config_of b.value) c.args.modules.now c.loop-m.m
    c.loop-m.invariant c.loop-m-test.false
