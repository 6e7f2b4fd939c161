use Rattle.cip_laws.proofs.FailuresRead.{request_read, send_read, open_read, open_late, open_cut, open_unread, close_read}
use Rattle.cip_laws.proofs.messages.failures_are_read_back.Goals as goal

pub returns-clause-requests : goal.returns-clause-requests
returns-clause-requests c = request_read

pub returns-clause-sends : goal.returns-clause-sends
returns-clause-sends c = send_read

pub returns-clause-opens : goal.returns-clause-opens
returns-clause-opens c = open_read

pub returns-clause-closes : goal.returns-clause-closes
returns-clause-closes c = close_read

pub returns-clause-late : goal.returns-clause-late
returns-clause-late c = open_late

pub returns-clause-cut : goal.returns-clause-cut
returns-clause-cut c = open_cut

pub returns-clause-unread : goal.returns-clause-unread
returns-clause-unread c = open_unread
