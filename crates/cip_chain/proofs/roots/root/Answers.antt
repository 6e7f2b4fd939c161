use Rattle.std.specs.Prelude.{reverse}
use Rattle.cip_world.proofs.Arrived.{arrived_of}
use Rattle.cip_world.proofs.Chassis.{chassis}
use Rattle.cip_world.proofs.Consumed.{consumed_of}
use Rattle.cip_chain.proofs.roots.root.Goals as goal

pub returns-clause-consumed : goal.returns-clause-consumed
returns-clause-consumed c t is run e triad instance bytes h =
    consumed_of (chassis t is) (reverse c.args.journal.now) c.args.k e triad instance bytes run h

pub returns-clause-arrived : goal.returns-clause-arrived
returns-clause-arrived c t is run m op bytes h =
    arrived_of (chassis t is) (reverse c.args.journal.now) c.args.k m op bytes run h
