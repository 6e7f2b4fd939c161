use Rattle.witnesses.proofs.StoredRun.{stored_run}
use Rattle.witnesses.proofs.laws.stored_run.Goals as goal

pub returns : goal.returns
returns c = stored_run
