use Rattle.std.proofs.Common.{◌<◌, length, arith, ◌∙◌}
use Rattle.cip_threads.proofs.Queueing.{moved_more, within_lists}
use Rattle.cip_threads.proofs.queues.pour.Goals as goal

pub loop-feed-preserved : goal.loop-feed-preserved
loop-feed-preserved c =
    let fits = c.loop-feed.queues.ok.0 in
    let same = c.loop-feed.invariant.count in
    let asked = c.requires in
    let lt : c.args.m < length c.loop-feed.queues.items = omega (arith, fits, same, asked) in
    record {
      moved = rw (c.take_first.ensures.after, c.in_ok-push.ensures.items)
          (moved_more _ _ c.args.m c.in-Some.feed _ _ _ (within_lists (λ q. q.items) c.loop-feed.queues.items c.args.m lt)
          c.in-Some.ensures.some c.loop-feed.invariant.moved);
      count = c.take_first.ensures.count ∙ c.loop-feed.invariant.count;
    }
