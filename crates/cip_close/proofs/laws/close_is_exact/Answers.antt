use Rattle.cip_close.proofs.Closes.{close_faults, close_read, close_verdict}
use Rattle.cip_close.proofs.laws.close_is_exact.Goals as goal

pub returns-clause-only : goal.returns-clause-only
returns-clause-only c = close_read

pub returns-clause-verdict : goal.returns-clause-verdict
returns-clause-verdict c = close_verdict

pub returns-clause-faults : goal.returns-clause-faults
returns-clause-faults c = close_faults
