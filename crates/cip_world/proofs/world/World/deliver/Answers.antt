use Rattle.std.proofs.Common.{subst}
use Rattle.std.specs.Prelude.{IfOk, IfErr}
use Rattle.cip_chassis.specs.Plan.{Plan}
use Rattle.cip_world.specs.Journals.{Journal}
use Rattle.cip_world.specs.Worlds.{AddsArrival, IsFrameFault}
use Rattle.cip_world.proofs.world.World.deliver.Goals as goal

pub returns-clause-ok : goal.returns-clause-ok
returns-clause-ok g c =
    subst (λ (j : Journal). IfOk c.bring.result (AddsArrival j c.bring.new.self.ledger.journal c.args.name)) c.prepare.ensures.journal c.bring.ensures.ok

pub returns-clause-fault : goal.returns-clause-fault
returns-clause-fault g c =
    subst (λ (t : Plan). IfErr c.bring.result (IsFrameFault t c.args.self.now.ledger.journal c.args.name)) c.prepare.ensures.plan
    (subst (λ (j : Journal). IfErr c.bring.result (IsFrameFault c.prepare.new.self.plan j c.args.name)) c.prepare.ensures.journal c.bring.ensures.fault)
