use Rattle.std.proofs.Common.{arith, Bor}
use Rattle.cip_threads.proofs.Queueing.{queue_is, first_some, first_none}
use Rattle.cip_threads.proofs.queues.first_in.Goals as goal

pub returns-clause-some : goal.returns-clause-some
returns-clause-some g c =
    let q = c.index-queues-m.result in
    rw (queue_is (λ q. q.items) c.args.queues.now c.args.m q c.requires c.index-queues-m.is)
    (first_some (λ (x : Bor g.row.T.Denot). x.now) c.front.result q.items (λ s. let v = c.front.ensures.variant.0 s in
    let ok = q.ok.0 in omega (arith, v, ok)) c.front.ensures.lookup)

pub returns-clause-none : goal.returns-clause-none
returns-clause-none g c =
    let q = c.index-queues-m.result in
    rw (queue_is (λ q. q.items) c.args.queues.now c.args.m q c.requires c.index-queues-m.is)
    (first_none c.front.result q.items (λ lt. c.front.ensures.variant.1 (let ok = q.ok.0 in omega (arith, lt, ok))))
