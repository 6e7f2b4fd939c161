use Rattle.cip_world.proofs.Chassis.{chassis}
use Rattle.cip_world.proofs.Consumed.{consumed_of}
use Rattle.cip_world.proofs.laws.what_is_consumed_was_entered.Goals as goal

pub returns : goal.returns
returns c t is j k e triad instance bytes run h = consumed_of (chassis t is) j k e triad instance bytes run h
