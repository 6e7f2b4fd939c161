use Rattle.cip_world.proofs.Waits.{listed_waits, waits_listed, waiting_rise}
use Rattle.cip_world.proofs.laws.what_waits_is_listed.Goals as goal

pub returns-clause-waits : goal.returns-clause-waits
returns-clause-waits c = waits_listed

pub returns-clause-listed : goal.returns-clause-listed
returns-clause-listed c = listed_waits

pub returns-clause-rising : goal.returns-clause-rising
returns-clause-rising c = waiting_rise
