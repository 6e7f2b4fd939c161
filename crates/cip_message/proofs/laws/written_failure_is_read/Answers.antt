use Rattle.cip_message.proofs.Failures.{failure_back}
use Rattle.cip_message.proofs.laws.written_failure_is_read.Goals as goal

pub returns : goal.returns
returns c = failure_back
