use Rattle.cip_laws.proofs.GoesOn.{message_no_open, close_no_open}
use Rattle.cip_laws.proofs.messages.what_goes_on_is_no_open.Goals as goal

pub returns-clause-sends : goal.returns-clause-sends
returns-clause-sends c = message_no_open

pub returns-clause-closes : goal.returns-clause-closes
returns-clause-closes c = close_no_open
