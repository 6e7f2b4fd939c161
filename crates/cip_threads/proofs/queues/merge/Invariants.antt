use Rattle.std.proofs.Common.{◌≡◌, ◌+◌, length, map}
use Rattle.cip_threads.specs.Queues.{count_all}
use Rattle.cip_threads.proofs.Merging.{IsMerging}
use Rattle.cip_threads.proofs.queues.merge.Given as goal

abbrev pub invariant-loop-i : goal.invariant-loop-i
invariant-loop-i l =
    record {
      left : IsMerging (map (λ q. q.items) l.fn.queues.items) (map (λ q. q.items) l.queues.items) l.names.items;
      size : length l.names.items ≡ l._i;
      count : count_all (map (λ q. q.items) l.queues.items) + l._i ≡ l.count;
    }
