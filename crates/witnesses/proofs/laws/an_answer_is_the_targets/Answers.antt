use Rattle.witnesses.proofs.DonesTold.{stored_sent, stored_done, stored_trail, stored_tells}
use Rattle.witnesses.proofs.laws.an_answer_is_the_targets.Goals as goal

pub returns-clause-sent : goal.returns-clause-sent
returns-clause-sent c = stored_sent

pub returns-clause-done : goal.returns-clause-done
returns-clause-done c = stored_done

pub returns-clause-trail : goal.returns-clause-trail
returns-clause-trail c = stored_trail

pub returns-clause-tells : goal.returns-clause-tells
returns-clause-tells c = stored_tells
