use Rattle.cip_open.proofs.Successes.{open_reply_faults, open_reply_read, open_reply_verdict}
use Rattle.cip_open.proofs.laws.open_reply_is_exact.Goals as goal

pub returns-clause-only : goal.returns-clause-only
returns-clause-only c = open_reply_read

pub returns-clause-verdict : goal.returns-clause-verdict
returns-clause-verdict c = open_reply_verdict

pub returns-clause-faults : goal.returns-clause-faults
returns-clause-faults c = open_reply_faults
