use Rattle.cip_chain.specs.Answers.{IsReached, left}
use Rattle.cip_chain.proofs.chains.follow.Given as goal

-- the modules so far lead to the connection that is looked at
abbrev pub invariant-loop-next : goal.invariant-loop-next
invariant-loop-next g l = IsReached l.world.ledger.plan l.world.ledger.journal l.fn.at.0 l.op l.here l.modules.items

-- each connection has less of the path before it than the one before
abbrev pub decreases-loop-next : goal.decreases-loop-next
decreases-loop-next g l = left l.here
