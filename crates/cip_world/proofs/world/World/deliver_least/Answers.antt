use Rattle.std.proofs.Common.{◌≡◌, [], subst}
use Rattle.cip_chassis.specs.Plan.{Plan}
use Rattle.cip_world.specs.Journals.{Journal}
use Rattle.cip_world.specs.Waiting.{waiting}
use Rattle.cip_world.proofs.Ran.{none_first, first_waits}
use Rattle.cip_world.proofs.world.World.deliver_least.Goals as goal

pub returns-in-None-clause-ok : goal.returns-in-None-clause-ok
returns-in-None-clause-ok g c = (
  c.prepare.ensures.journal,
  subst (λ (j : Journal). waiting c.args.self.now.ledger.plan j ≡ []) c.prepare.ensures.journal
      (subst (λ (t : Plan). waiting t c.prepare.new.self.journal ≡ []) c.prepare.ensures.plan
      (none_first c.prepare.new.self.plan c.prepare.new.self.journal c.least.result c.least.ensures c.in-None.is)),
)

pub bring-requires-clause-waits : goal.bring-requires-clause-waits
bring-requires-clause-waits g c = first_waits c.prepare.new.self.plan c.prepare.new.self.journal c.least.result c.in-Some.name c.least.ensures c.in-Some.is
