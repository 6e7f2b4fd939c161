use Rattle.witnesses.proofs.ResetTold.{resets_there, turns_are, is_made_again, numbers_are_later, ids_are_later, none_waits_there, none_goes_there}
use Rattle.witnesses.proofs.laws.a_reset_is_told_of.Goals as goal

pub returns-clause-reset : goal.returns-clause-reset
returns-clause-reset c = resets_there

pub returns-clause-turns : goal.returns-clause-turns
returns-clause-turns c = turns_are

pub returns-clause-state : goal.returns-clause-state
returns-clause-state c = is_made_again

pub returns-clause-numbers : goal.returns-clause-numbers
returns-clause-numbers c = numbers_are_later

pub returns-clause-ids : goal.returns-clause-ids
returns-clause-ids c = ids_are_later

pub returns-clause-waiting : goal.returns-clause-waiting
returns-clause-waiting c = none_waits_there

pub returns-clause-connections : goal.returns-clause-connections
returns-clause-connections c = none_goes_there
