use Rattle.std.proofs.Common.{◌≡◌, length, map, vec_len}
use Rattle.cip_threads.specs.Queues.{queue_at}
use Rattle.cip_threads.specs.QueueSteps.{Moved}
use Rattle.cip_threads.proofs.queues.pour.Given as goal

abbrev pub invariant-loop-feed : goal.invariant-loop-feed
invariant-loop-feed l =
    record {
      moved : Moved (map (λ q. q.items) l.fn.queues.items) (map (λ q. q.items) l.queues.items) l.fn.feeds.items l.feeds.items;
      count : vec_len l.queues ≡ vec_len l.fn.queues;
    }

abbrev pub decreases-loop-feed : goal.decreases-loop-feed
decreases-loop-feed l = length (queue_at (map (λ q. q.items) l.queues.items) l.m)
