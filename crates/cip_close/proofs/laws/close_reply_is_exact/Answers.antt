use Rattle.cip_close.proofs.Successes.{close_reply_faults, close_reply_read, close_reply_verdict}
use Rattle.cip_close.proofs.laws.close_reply_is_exact.Goals as goal

pub returns-clause-only : goal.returns-clause-only
returns-clause-only c = close_reply_read

pub returns-clause-verdict : goal.returns-clause-verdict
returns-clause-verdict c = close_reply_verdict

pub returns-clause-faults : goal.returns-clause-faults
returns-clause-faults c = close_reply_faults
