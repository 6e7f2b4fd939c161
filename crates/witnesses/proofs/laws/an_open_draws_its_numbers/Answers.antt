use Rattle.witnesses.proofs.ResetTold.{number_is_sent, number_is_drawn, is_born, ids_are_drawn}
use Rattle.witnesses.proofs.laws.an_open_draws_its_numbers.Goals as goal

pub returns-clause-sent : goal.returns-clause-sent
returns-clause-sent c = number_is_sent

pub returns-clause-number : goal.returns-clause-number
returns-clause-number c = number_is_drawn

pub returns-clause-born : goal.returns-clause-born
returns-clause-born c = is_born

pub returns-clause-ids : goal.returns-clause-ids
returns-clause-ids c = ids_are_drawn
