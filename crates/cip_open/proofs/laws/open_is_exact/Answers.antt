use Rattle.cip_open.proofs.Opens.{open_faults, open_read, open_verdict}
use Rattle.cip_open.proofs.laws.open_is_exact.Goals as goal

pub returns-clause-only : goal.returns-clause-only
returns-clause-only c = open_read

pub returns-clause-verdict : goal.returns-clause-verdict
returns-clause-verdict c = open_verdict

pub returns-clause-faults : goal.returns-clause-faults
returns-clause-faults c = open_faults
