use Rattle.cip_message.proofs.Failures.{failure_faults, failure_read, failure_verdict}
use Rattle.cip_message.proofs.laws.failure_is_exact.Goals as goal

pub returns-clause-only : goal.returns-clause-only
returns-clause-only c = failure_read

pub returns-clause-verdict : goal.returns-clause-verdict
returns-clause-verdict c = failure_verdict

pub returns-clause-faults : goal.returns-clause-faults
returns-clause-faults c = failure_faults
