use Rattle.cip_laws.proofs.Puts.{pending_cases, next_number, next_id}
use Rattle.cip_laws.proofs.Stands.{held_cases}
use Rattle.cip_laws.proofs.effects.effects_change_the_tables.Goals as goal

pub returns-clause-pendings : goal.returns-clause-pendings
returns-clause-pendings c = pending_cases

pub returns-clause-connections : goal.returns-clause-connections
returns-clause-connections c = held_cases

pub returns-clause-numbers : goal.returns-clause-numbers
returns-clause-numbers c = next_number

pub returns-clause-ids : goal.returns-clause-ids
returns-clause-ids c = next_id
