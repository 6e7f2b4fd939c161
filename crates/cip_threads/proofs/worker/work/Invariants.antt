use Rattle.std.proofs.Common.{◌≡◌, reverse}
use Rattle.cip_threads.specs.Messages.{Leads}
use Rattle.cip_threads.proofs.worker.work.Given as goal

abbrev pub invariant-loop : goal.invariant-loop
invariant-loop g l =
    (goal.iterator-loop g).can_next l.iterator' × (goal.iterator-loop g).is_finite l.iterator'
    × ((goal.Module-dyn g (l.boxed.vtable, l.boxed.value)).config_of l.boxed.value
    ≡ (goal.Module-dyn g (l.fn.boxed.vtable, l.fn.boxed.value)).config_of l.fn.boxed.value)
    × Leads ((goal.Module-dyn g (l.boxed.vtable, l.boxed.value)).config_of l.boxed.value) (reverse l.history.items)
    ((goal.Module-dyn g (l.boxed.vtable, l.boxed.value)).state_of l.boxed.value)
