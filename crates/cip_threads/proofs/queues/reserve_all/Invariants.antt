use Rattle.std.proofs.Common.{◌≡◌, ◌-◌, take, length, map, vec_len}
use Rattle.std.specs.VecDeque.{deque_capacity, deque_len}
use Rattle.cip_threads.specs.QueueSteps.{HaveRoom}
use Rattle.cip_threads.proofs.queues.reserve_all.Given as goal

abbrev pub invariant-loop-i : goal.invariant-loop-i
invariant-loop-i l =
    record {
      same : map (λ q. q.items) l.queues.items ≡ map (λ q. q.items) l.fn.queues.items;
      room : HaveRoom (λ q. deque_capacity q - deque_len q) l.queues.items (length l.sends) (take l.i l.sends);
      count : vec_len l.queues ≡ vec_len l.fn.queues;
    }
