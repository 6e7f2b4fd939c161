use Rattle.cip_world.proofs.Carried.{carried}
use Rattle.cip_world.proofs.Chassis.{chassis}
use Rattle.cip_world.proofs.laws.chains_carry_data.Goals as goal

pub returns : goal.returns
returns c t is j entry m op bytes run e first rest same chain ks deliveries long kept =
    carried (chassis t is) j entry m op bytes run e first rest same chain ks deliveries long kept
