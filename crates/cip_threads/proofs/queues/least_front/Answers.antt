use Rattle.std.proofs.Common.{arith}
use Rattle.cip_threads.proofs.Queueing.{count_empty}
use Rattle.cip_threads.proofs.Merging.{if_none}
use Rattle.std.proofs.lemmas.List.{length-map}
use Rattle.cip_threads.proofs.queues.least_front.Goals as goal

pub returns-clause-none : goal.returns-clause-none
returns-clause-none c =
    let done = c.loop-m-test.false in
    let same = length-map c.args.queues.now (λ q. q.items) in
    if_none _ _ c.loop-m.least (λ none. count_empty _ (λ k lt. none k (omega (arith, done, lt, same)))) c.loop-m.invariant.none
