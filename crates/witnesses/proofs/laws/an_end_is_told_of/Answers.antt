use Rattle.witnesses.proofs.ResetTold.{turns_behind, one_ended, at_most_one, nothing_behind}
use Rattle.witnesses.proofs.laws.an_end_is_told_of.Goals as goal

pub returns-clause-turns : goal.returns-clause-turns
returns-clause-turns c = turns_behind

pub returns-clause-ended : goal.returns-clause-ended
returns-clause-ended c = one_ended

pub returns-clause-most : goal.returns-clause-most
returns-clause-most c = at_most_one

pub returns-clause-last : goal.returns-clause-last
returns-clause-last c = nothing_behind
