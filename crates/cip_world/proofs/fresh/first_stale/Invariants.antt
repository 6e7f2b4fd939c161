use Rattle.std.proofs.Common.{◌≡◌, map, take}
use Rattle.cip_routing.specs.State.{initial_state}
use Rattle.cip_world.proofs.fresh.first_stale.Given as goal

abbrev pub invariant-loop-m : goal.invariant-loop-m
invariant-loop-m g l =
    map (λ b. (goal.Module-dyn g (b.vtable, b.value)).state_of b.value) (take l.m l.modules)
    ≡ map (λ b. initial_state ((goal.Module-dyn g (b.vtable, b.value)).config_of b.value)) (take l.m l.modules)
