use Rattle.witnesses.proofs.DonesTold.{chained_opened, chained_done, chained_trail, chained_tells}
use Rattle.witnesses.proofs.laws.a_success_tells_where.Goals as goal

pub returns-clause-opened : goal.returns-clause-opened
returns-clause-opened c = chained_opened

pub returns-clause-done : goal.returns-clause-done
returns-clause-done c = chained_done

pub returns-clause-trail : goal.returns-clause-trail
returns-clause-trail c = chained_trail

pub returns-clause-tells : goal.returns-clause-tells
returns-clause-tells c = chained_tells
