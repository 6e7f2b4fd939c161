use Rattle.std.proofs.Common.{◌≡◌, ◌<◌, [], length, map, replicate, vec_len}
use Rattle.std.specs.Prelude.{All}
use Rattle.cip_threads.specs.Queues.{enqueue}
use Rattle.cip_threads.proofs.queues.deal.Given as goal

abbrev pub invariant-loop-fed : goal.invariant-loop-fed
invariant-loop-fed l =
    record {
      so_far : enqueue (map (λ q. q.items) l.queues.items) l.left.items ≡ enqueue (replicate l.count []) l.fn.feeds.items;
      count : vec_len l.queues ≡ l.count;
      within : All (λ fed. fed.0.0 < l.count) l.left.items;
    }

abbrev pub decreases-loop-fed : goal.decreases-loop-fed
decreases-loop-fed l = length l.left.items
