use Rattle.std.proofs.Common.{◌≡◌, ◌<◌, ℕ, [], map}
use Rattle.std.specs.Prelude.{IfSome, IfNone}
use Rattle.cip_threads.specs.Queues.{queue_at}
use Rattle.cip_threads.specs.QueueSteps.{IsLeast}
use Rattle.cip_threads.proofs.queues.least_front.Given as goal

abbrev pub invariant-loop-m : goal.invariant-loop-m
invariant-loop-m l =
    record {
      some : IfSome l.least (λ r. IsLeast (map (λ q. q.items) l.queues) l.m r.m r.name);
      none : IfNone l.least ((k : ℕ) → k < l.m → queue_at (map (λ q. q.items) l.queues) k ≡ []);
    }
