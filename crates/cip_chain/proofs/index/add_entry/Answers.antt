use Rattle.std.proofs.Common.{◌∙◌}
use Rattle.cip_chain.proofs.Indexes.{index_after}
use Rattle.cip_chain.proofs.index.add_entry.Goals as goal

pub returns-in-Ok-clause-ok : goal.returns-in-Ok-clause-ok
returns-in-Ok-clause-ok c = λ j is.
    index_after c.args.onwards.now.items c.push.new.self.items c.add_arrival.new.onwards.items c.args.firsts.now c.add_command.new.firsts c.args.entry.now
    j c.len-k.result c.sent_at.result is (c.len-k.ensures ∙ c.args.onwards.now.ok.0) c.sent_at.ensures c.in_ok-push.ensures.items c.add_arrival.ensures
    c.in-Ok.ensures.ok
