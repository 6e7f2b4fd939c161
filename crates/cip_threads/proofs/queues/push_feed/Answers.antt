use Rattle.std.proofs.Common.{◌∷◌, ◌++◌, [], rules, sym, ap, ◌∙◌}
use Rattle.cip_threads.proofs.Queueing.{queue_is, set_lists}
use Rattle.cip_threads.proofs.queues.push_feed.Goals as goal

pub returns-clause-ok : goal.returns-clause-ok
returns-clause-ok c =
    set_lists (λ q. q.items) c.args.queues.now.items c.args.fed.0.0 c.push_back.new.self _
    (c.in_ok-push_back.ensures.items
    ∙ ap (λ l. l ++ c.args.fed.1 ∷ [])
    (sym (queue_is (λ q. q.items) c.args.queues.now.items c.args.fed.0.0 c.index_mut.result.now (search rules) c.index_mut.ensures.value)))
