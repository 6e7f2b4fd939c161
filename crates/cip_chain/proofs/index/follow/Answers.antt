use Rattle.std.proofs.Common.{◌∙◌, length}
use Rattle.cip_chain.proofs.Indexes.{followed, follows_on}
use Rattle.cip_chain.proofs.index.follow.Goals as goal

pub returns-in_default : goal.returns-in_default
returns-in_default c = followed c.loop-turn.trail.items c.args.onwards.now _ c.loop-turn.left c.in_default.is ∙ c.loop-turn.invariant

pub loop-turn-preserved : goal.loop-turn-preserved
loop-turn-preserved c =
    follows_on c.loop-turn.trail.items c.push.new.self.items c.args.onwards.now c.loop-turn._turn (length c.args.onwards.now) c.in-Some.k c.loop-turn.left
    c.next_of-left.result _ c.loop-turn-test.true c.in-Some.is c.in_ok-push.ensures.items c.next_of-left.ensures c.loop-turn.invariant
