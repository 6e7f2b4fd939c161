use Rattle.cip_target.proofs.Resets.{reset_again}
use Rattle.cip_target.proofs.laws.reset_is_as_made.Goals as goal

pub returns : goal.returns
returns c = reset_again
