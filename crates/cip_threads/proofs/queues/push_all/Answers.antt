use Rattle.std.proofs.Common.{◌-◌, ◌∙◌}
use Rattle.std.specs.VecDeque.{deque_capacity, deque_len}
use Rattle.cip_threads.proofs.Queueing.{room_first, room_later, enqueue_next}
use Rattle.cip_threads.proofs.queues.push_all.Goals as goal

pub push_reserved-requires-clause-room : goal.push_reserved-requires-clause-room
push_reserved-requires-clause-room c =
    room_first (λ q. deque_capacity q - deque_len q) c.loop-i.queues.items c.loop-i.i c.args.sends.now c.nth-send.result
    c.loop-i-test.true c.nth-send.ensures c.loop-i.invariant.room

pub loop-i-preserved : goal.loop-i-preserved
loop-i-preserved c =
    record {
      so_far = enqueue_next _ _ _ c.loop-i.i c.args.sends.now c.nth-send.result c.loop-i-test.true c.nth-send.ensures
          c.push_reserved.ensures.items c.loop-i.invariant.so_far;
      room = room_later (λ q. deque_capacity q - deque_len q) c.loop-i.queues.items c.push_reserved.new.queues.items
          c.loop-i.i c.args.sends.now c.nth-send.result
          c.loop-i-test.true c.nth-send.ensures c.push_reserved.ensures.stays c.loop-i.invariant.room;
      count = c.push_reserved.ensures.count ∙ c.loop-i.invariant.count;
    }
