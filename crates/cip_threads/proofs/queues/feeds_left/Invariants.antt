use Rattle.std.proofs.Common.{◌≡◌, ◌<◌, ℕ, [], map, vec_len}
use Rattle.cip_threads.specs.Queues.{queue_at}
use Rattle.cip_threads.specs.QueueSteps.{Moved}
use Rattle.cip_threads.proofs.queues.feeds_left.Given as goal

abbrev pub invariant-loop-m : goal.invariant-loop-m
invariant-loop-m l =
    record {
      moved : Moved (map (λ q. q.items) l.fn.queues.items) (map (λ q. q.items) l.queues.items) [] l.feeds.items;
      empty : (k : ℕ) → k < l.m → queue_at (map (λ q. q.items) l.queues.items) k ≡ [];
      count : vec_len l.queues ≡ vec_len l.fn.queues;
    }
