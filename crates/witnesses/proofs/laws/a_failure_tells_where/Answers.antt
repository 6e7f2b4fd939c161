use Rattle.witnesses.proofs.DonesTold.{failed_opened, failed_done, failed_trail, failed_tells}
use Rattle.witnesses.proofs.laws.a_failure_tells_where.Goals as goal

pub returns-clause-opened : goal.returns-clause-opened
returns-clause-opened c = failed_opened

pub returns-clause-done : goal.returns-clause-done
returns-clause-done c = failed_done

pub returns-clause-trail : goal.returns-clause-trail
returns-clause-trail c = failed_trail

pub returns-clause-tells : goal.returns-clause-tells
returns-clause-tells c = failed_tells
