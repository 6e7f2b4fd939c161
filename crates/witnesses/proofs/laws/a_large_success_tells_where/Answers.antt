use Rattle.witnesses.proofs.DonesTold.{large_opened, large_done, large_trail, large_tells}
use Rattle.witnesses.proofs.laws.a_large_success_tells_where.Goals as goal

pub returns-clause-opened : goal.returns-clause-opened
returns-clause-opened c = large_opened

pub returns-clause-done : goal.returns-clause-done
returns-clause-done c = large_done

pub returns-clause-trail : goal.returns-clause-trail
returns-clause-trail c = large_trail

pub returns-clause-tells : goal.returns-clause-tells
returns-clause-tells c = large_tells
