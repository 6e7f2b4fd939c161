use Rattle.std.proofs.Common.{drop, rules, sym, ap, ◌∙◌}
use Rattle.cip_threads.proofs.Queueing.{queue_is, set_lists}
use Rattle.cip_threads.proofs.queues.take_first.Goals as goal

pub returns-clause-after : goal.returns-clause-after
returns-clause-after g c =
    set_lists (λ q. q.items) c.args.queues.now.items c.args.m c.pop_front.new.self _
    (c.pop_front.ensures.rest ∙ ap (drop 1)
    (sym (queue_is (λ q. q.items) c.args.queues.now.items c.args.m c.index_mut.result.now (search rules) c.index_mut.ensures.value)))
