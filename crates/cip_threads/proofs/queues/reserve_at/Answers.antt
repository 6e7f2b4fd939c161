use Rattle.std.proofs.Common.{◌-◌, rules, arith}
use Rattle.std.specs.VecDeque.{deque_capacity, deque_len}
use Rattle.cip_threads.proofs.Queueing.{get_is, kept_lists, room_set, room_here, room_kept, room_enough}
use Rattle.cip_threads.proofs.queues.reserve_at.Goals as goal

pub returns-in_err-reserve-clause-same : goal.returns-in_err-reserve-clause-same
returns-in_err-reserve-clause-same c =
    kept_lists (λ q. q.items) c.args.queues.now.items c.args.send.now.0.0 c.index_mut.result.now c.reserve.new.self
    (search rules) c.index_mut.ensures.value c.reserve.ensures.items

pub returns-in_err-reserve-clause-stays : goal.returns-in_err-reserve-clause-stays
returns-in_err-reserve-clause-stays c k n has =
    room_set (λ q. deque_capacity q - deque_len q) c.args.queues.now.items c.args.send.now.0.0 k n n c.index_mut.result.now c.reserve.new.self
    (get_is c.args.queues.now.items c.args.send.now.0.0 c.index_mut.result.now (search rules) c.index_mut.ensures.value)
    (λ h. room_kept n (deque_capacity c.index_mut.result.now) (deque_capacity c.reserve.new.self) (deque_len c.index_mut.result.now)
    (deque_len c.reserve.new.self)
    c.reserve.ensures.len c.reserve.ensures.capacity h) (omega arith) has

pub returns-clause-same : goal.returns-clause-same
returns-clause-same c =
    kept_lists (λ q. q.items) c.args.queues.now.items c.args.send.now.0.0 c.index_mut.result.now c.reserve.new.self
    (search rules) c.index_mut.ensures.value c.reserve.ensures.items

pub returns-clause-stays : goal.returns-clause-stays
returns-clause-stays c k n has =
    room_set (λ q. deque_capacity q - deque_len q) c.args.queues.now.items c.args.send.now.0.0 k n n c.index_mut.result.now c.reserve.new.self
    (get_is c.args.queues.now.items c.args.send.now.0.0 c.index_mut.result.now (search rules) c.index_mut.ensures.value)
    (λ h. room_kept n (deque_capacity c.index_mut.result.now) (deque_capacity c.reserve.new.self) (deque_len c.index_mut.result.now)
    (deque_len c.reserve.new.self)
    c.reserve.ensures.len c.reserve.ensures.capacity h) (omega arith) has

pub returns-clause-room : goal.returns-clause-room
returns-clause-room c =
    room_here (λ q. deque_capacity q - deque_len q) c.args.queues.now.items c.args.send.now.0.0 c.args.count c.reserve.new.self (search rules)
    (room_enough c.args.count (deque_capacity c.reserve.new.self) (deque_len c.reserve.new.self) c.in_ok-reserve.ensures.ok)
