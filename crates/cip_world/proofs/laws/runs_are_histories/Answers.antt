use Rattle.cip_world.proofs.Parts.{run_history}
use Rattle.cip_world.proofs.laws.runs_are_histories.Goals as goal

pub returns : goal.returns
returns c = run_history
