use Rattle.cip_laws.proofs.Rises.{numbers_rise, ids_rise, time_rises}
use Rattle.cip_laws.proofs.Triads.{own_triads}
use Rattle.cip_laws.proofs.histories.tables_stay_in_order.Goals as goal

pub returns-clause-triads : goal.returns-clause-triads
returns-clause-triads c = own_triads

pub returns-clause-numbers : goal.returns-clause-numbers
returns-clause-numbers c = numbers_rise

pub returns-clause-ids : goal.returns-clause-ids
returns-clause-ids c = ids_rise

pub returns-clause-clock : goal.returns-clause-clock
returns-clause-clock c = time_rises
