use Rattle.witnesses.proofs.ConnectedRun.{connected_run}
use Rattle.witnesses.proofs.laws.connected_run.Goals as goal

pub returns : goal.returns
returns c = connected_run
