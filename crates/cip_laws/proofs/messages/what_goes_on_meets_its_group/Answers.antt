use Rattle.cip_laws.proofs.NextRows.{open_meets, send_meets, close_meets}
use Rattle.cip_laws.proofs.messages.what_goes_on_meets_its_group.Goals as goal

pub returns-clause-opens : goal.returns-clause-opens
returns-clause-opens c = open_meets

pub returns-clause-sends : goal.returns-clause-sends
returns-clause-sends c = send_meets

pub returns-clause-closes : goal.returns-clause-closes
returns-clause-closes c = close_meets
