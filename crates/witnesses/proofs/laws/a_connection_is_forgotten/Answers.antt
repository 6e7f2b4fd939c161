use Rattle.witnesses.proofs.ResetTold.{under_it, stood_there, counts_there, made_under_it, none_waits_under_it, none_is_left, none_goes_down}
use Rattle.witnesses.proofs.laws.a_connection_is_forgotten.Goals as goal

pub returns-clause-reset : goal.returns-clause-reset
returns-clause-reset c = under_it

pub returns-clause-stood : goal.returns-clause-stood
returns-clause-stood c = stood_there

pub returns-clause-drawn : goal.returns-clause-drawn
returns-clause-drawn c = counts_there

pub returns-clause-state : goal.returns-clause-state
returns-clause-state c = made_under_it

pub returns-clause-waiting : goal.returns-clause-waiting
returns-clause-waiting c = none_waits_under_it

pub returns-clause-gone : goal.returns-clause-gone
returns-clause-gone c = none_is_left

pub returns-clause-none_down : goal.returns-clause-none_down
returns-clause-none_down c = none_goes_down
