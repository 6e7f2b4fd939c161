use Rattle.std.proofs.Common.{arith, map}
use Rattle.std.proofs.lemmas.List.{length-map}
use Rattle.cip_threads.proofs.Queueing.{count_empty}
use Rattle.cip_threads.proofs.queues.feeds_left.Goals as goal

pub returns-clause-size : goal.returns-clause-size
returns-clause-size c =
    let size = c.loop-m.invariant.moved.size in
    let done = c.loop-m-test.false in
    let same = length-map c.loop-m.queues.items (λ q. q.items) in
    let count = c.loop-m.invariant.count in
    let fits = c.loop-m.queues.ok.0 in
    let none = count_empty (map (λ q. q.items) c.loop-m.queues.items) (λ k lt. c.loop-m.invariant.empty k (omega (arith, lt, done, same, count, fits))) in
    omega (arith, size, none)
