use Rattle.std.proofs.Common.{◌-◌, length, ◌∙◌}
use Rattle.std.specs.VecDeque.{deque_capacity, deque_len}
use Rattle.cip_threads.proofs.Queueing.{room_taken}
use Rattle.cip_threads.proofs.queues.reserve_all.Goals as goal

pub loop-i-preserved : goal.loop-i-preserved
loop-i-preserved c =
    record {
      same = c.reserve_at.ensures.same ∙ c.loop-i.invariant.same;
      room = room_taken (λ q. deque_capacity q - deque_len q) c.loop-i.queues.items c.reserve_at.new.queues.items
          (length c.args.sends.now) c.loop-i.i c.args.sends.now
          c.nth-send.result c.loop-i-test.true c.nth-send.ensures (λ k. c.reserve_at.ensures.stays k (length c.args.sends.now))
          c.in_ok-reserve_at.ensures.room c.loop-i.invariant.room;
      count = c.reserve_at.ensures.count ∙ c.loop-i.invariant.count;
    }
