use Rattle.cip_world.proofs.Chassis.{chassis}
use Rattle.cip_world.proofs.Mirrored.{mirrored}
use Rattle.cip_world.proofs.laws.hops_are_mirrored.Goals as goal

pub returns : goal.returns
returns c t is j k m config run older there q h port address at down = mirrored (chassis t is) j k m config run there older q h port address at down
