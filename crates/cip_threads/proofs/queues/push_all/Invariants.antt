use Rattle.std.proofs.Common.{◌≡◌, ◌-◌, drop, length, map, vec_len}
use Rattle.std.specs.VecDeque.{deque_capacity, deque_len}
use Rattle.cip_threads.specs.Queues.{enqueue}
use Rattle.cip_threads.specs.QueueSteps.{HaveRoom}
use Rattle.cip_threads.proofs.queues.push_all.Given as goal

abbrev pub invariant-loop-i : goal.invariant-loop-i
invariant-loop-i l =
    record {
      so_far : enqueue (map (λ q. q.items) l.queues.items) (drop l.i l.sends) ≡ enqueue (map (λ q. q.items) l.fn.queues.items) l.sends;
      room : HaveRoom (λ q. deque_capacity q - deque_len q) l.queues.items (length (drop l.i l.sends)) (drop l.i l.sends);
      count : vec_len l.queues ≡ vec_len l.fn.queues;
    }
