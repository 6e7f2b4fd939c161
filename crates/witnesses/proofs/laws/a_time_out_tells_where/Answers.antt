use Rattle.witnesses.proofs.DonesTold.{timed_out_opened, timed_out_done, timed_out_trail, timed_out_tells}
use Rattle.witnesses.proofs.laws.a_time_out_tells_where.Goals as goal

pub returns-clause-opened : goal.returns-clause-opened
returns-clause-opened c = timed_out_opened

pub returns-clause-done : goal.returns-clause-done
returns-clause-done c = timed_out_done

pub returns-clause-trail : goal.returns-clause-trail
returns-clause-trail c = timed_out_trail

pub returns-clause-tells : goal.returns-clause-tells
returns-clause-tells c = timed_out_tells
