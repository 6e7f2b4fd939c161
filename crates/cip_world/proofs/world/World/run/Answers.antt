use Rattle.std.proofs.Common.{◌∙◌, subst, arith}
use Rattle.cip_chassis.specs.Plan.{Plan}
use Rattle.cip_world.specs.Worlds.{DeliversOne}
use Rattle.cip_world.proofs.Ran.{one_more, one_further}
use Rattle.cip_world.proofs.world.World.run.Goals as goal

pub loop-preserved : goal.loop-preserved
loop-preserved g c =
    let l = c.loop-test.true in (
      c.deliver_least.ensures.stand,
      c.deliver_least.ensures.plan ∙ c.loop.invariant.1,
      omega (arith, l),
      one_further c.args.self.now.ledger.plan c.loop.counter c.args.self.now.ledger.journal c.loop.self.ledger.journal
          c.deliver_least.new.self.ledger.journal c.loop.invariant.3
          (subst (λ (t : Plan). DeliversOne t c.loop.self.ledger.journal c.deliver_least.new.self.ledger.journal) c.loop.invariant.1
          (one_more c.loop.self.ledger.plan c.loop.self.ledger.journal c.deliver_least.new.self.ledger.journal
          c.in_ok-deliver_least.field-0 c.if-not-branch.false
          c.in_ok-deliver_least.ensures.ok)),
    )
