use Rattle.cip_world.proofs.Arrived.{arrived_of}
use Rattle.cip_world.proofs.Chassis.{chassis}
use Rattle.cip_world.proofs.laws.what_arrives_was_produced.Goals as goal

pub returns : goal.returns
returns c t is j k m op bytes run h = arrived_of (chassis t is) j k m op bytes run h
