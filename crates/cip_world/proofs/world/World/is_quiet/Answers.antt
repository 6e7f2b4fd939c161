use Rattle.std.proofs.Common.{refl}
use Rattle.cip_world.proofs.Ran.{none_first, some_first}
use Rattle.cip_world.proofs.world.World.is_quiet.Goals as goal

pub returns-in-None-clause-quiet : goal.returns-in-None-clause-quiet
returns-in-None-clause-quiet g c =
    let none = none_first c.prepare.new.self.plan c.prepare.new.self.journal c.least.result c.least.ensures c.in-None.is in
    (λ yes. none, λ empty. refl)

pub returns-in-Some-clause-quiet : goal.returns-in-Some-clause-quiet
returns-in-Some-clause-quiet g c =
    let some = some_first c.prepare.new.self.plan c.prepare.new.self.journal c.least.result c.in-Some.field-0 c.least.ensures c.in-Some.is in
    (λ yes. absurd (cc), λ empty. absurd (some empty))
