use Rattle.cip_laws.proofs.Failures.{request_fails, unconnected_fails, open_fails, close_fails}
use Rattle.cip_laws.proofs.messages.failures_have_a_status.Goals as goal

pub returns-clause-requests : goal.returns-clause-requests
returns-clause-requests c = request_fails

pub returns-clause-sends : goal.returns-clause-sends
returns-clause-sends c = unconnected_fails

pub returns-clause-opens : goal.returns-clause-opens
returns-clause-opens c = open_fails

pub returns-clause-closes : goal.returns-clause-closes
returns-clause-closes c = close_fails
