use Rattle.cip_world.proofs.Chassis.{chassis}
use Rattle.cip_world.proofs.ResetMirrors.{none_mirrors}
use Rattle.cip_world.proofs.laws.a_reset_leaves_no_mirror.Goals as goal

pub returns : goal.returns
returns c t is = none_mirrors (chassis t is)
