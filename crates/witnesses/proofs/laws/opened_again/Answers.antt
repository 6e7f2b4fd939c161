use Rattle.witnesses.proofs.OpenedAgain.{run_ends}
use Rattle.witnesses.proofs.laws.opened_again.Goals as goal

pub returns : goal.returns
returns c = run_ends
