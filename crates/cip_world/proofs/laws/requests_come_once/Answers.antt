use Rattle.cip_world.proofs.Arrivals.{asked_once}
use Rattle.cip_world.proofs.Chassis.{chassis}
use Rattle.cip_world.proofs.laws.requests_come_once.Goals as goal

pub returns : goal.returns
returns c t is j m port n from run = asked_once (chassis t is) j m port n from run
