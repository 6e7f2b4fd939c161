use Rattle.witnesses.proofs.FailedOpen.{failed_open}
use Rattle.witnesses.proofs.laws.failed_open.Goals as goal

pub returns : goal.returns
returns c = failed_open
