use Rattle.std.proofs.Common.{◌+◌, ◌-◌, ◌∷◌, ◌++◌, ◌≤◌, [], rules, arith, sym, ap, ◌∙◌}
use Rattle.std.specs.VecDeque.{deque_capacity, deque_len}
use Rattle.cip_threads.proofs.Queueing.{queue_is, get_is, set_lists, room_set, room_less}
use Rattle.cip_threads.proofs.queues.push_reserved.Goals as goal

pub push_back_reserved-requires : goal.push_back_reserved-requires
push_back_reserved-requires c =
    let q = c.index_mut.result.now in
    let r : 1 ≤ deque_capacity q - deque_len q =
    c.requires.room q (get_is c.args.queues.now.items c.args.send.now.0.0 q (search rules) c.index_mut.ensures.value) in
    omega (arith, r)

pub returns-clause-items : goal.returns-clause-items
returns-clause-items c =
    set_lists (λ q. q.items) c.args.queues.now.items c.args.send.now.0.0 c.push_back_reserved.new.self _
    (c.push_back_reserved.ensures.items
    ∙ ap (λ l. l ++ c.args.send.now.1 ∷ [])
    (sym (queue_is (λ q. q.items) c.args.queues.now.items c.args.send.now.0.0 c.index_mut.result.now (search rules) c.index_mut.ensures.value)))

pub returns-clause-stays : goal.returns-clause-stays
returns-clause-stays c k n has =
    room_set (λ q. deque_capacity q - deque_len q) c.args.queues.now.items c.args.send.now.0.0 k n (n + 1) c.index_mut.result.now c.push_back_reserved.new.self
    (get_is c.args.queues.now.items c.args.send.now.0.0 c.index_mut.result.now (search rules) c.index_mut.ensures.value)
    (λ h. room_less n (deque_capacity c.index_mut.result.now) (deque_capacity c.push_back_reserved.new.self)
    (deque_len c.index_mut.result.now) (deque_len c.push_back_reserved.new.self)
    c.push_back_reserved.ensures.len c.push_back_reserved.ensures.capacity h) (omega arith) has
