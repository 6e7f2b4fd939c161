use Rattle.std.proofs.Common.{◌≡◌, [], map, replicate}
use Rattle.cip_threads.proofs.queues.no_queues.Given as goal

abbrev pub invariant-loop-i : goal.invariant-loop-i
invariant-loop-i g l = map (λ q. q.items) l.queues.items ≡ replicate l._i []
