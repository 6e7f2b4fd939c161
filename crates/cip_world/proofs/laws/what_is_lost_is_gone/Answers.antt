use Rattle.cip_world.proofs.Lost.{lost_arrives, lost_once, lost_waits}
use Rattle.cip_world.proofs.laws.what_is_lost_is_gone.Goals as goal

pub returns-clause-arrives : goal.returns-clause-arrives
returns-clause-arrives c = lost_arrives

pub returns-clause-waits : goal.returns-clause-waits
returns-clause-waits c = λ t j k f run. lost_waits t j k f

pub returns-clause-once : goal.returns-clause-once
returns-clause-once c = lost_once
