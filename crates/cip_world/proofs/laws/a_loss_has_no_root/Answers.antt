use Rattle.cip_world.proofs.Lost.{lost_root}
use Rattle.cip_world.proofs.laws.a_loss_has_no_root.Goals as goal

pub returns : goal.returns
returns c = lost_root
