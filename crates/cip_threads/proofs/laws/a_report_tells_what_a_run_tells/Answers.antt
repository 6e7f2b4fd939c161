use Rattle.cip_world.proofs.Arrived.{arrived_of}
use Rattle.cip_world.proofs.Carried.{carried}
use Rattle.cip_world.proofs.Chassis.{chassis}
use Rattle.cip_world.proofs.Consumed.{consumed_of}
use Rattle.cip_world.proofs.DonesTell.{tells}
use Rattle.cip_world.proofs.Mirrored.{mirrored}
use Rattle.cip_world.proofs.RepliesTell.{replies_tell}
use Rattle.cip_threads.proofs.laws.a_report_tells_what_a_run_tells.Goals as goal

pub returns-clause-run : goal.returns-clause-run
returns-clause-run c t j r = r.report.run

pub returns-clause-consumed : goal.returns-clause-consumed
returns-clause-consumed c t j r is k e triad instance bytes h = consumed_of (chassis t is) j k e triad instance bytes r.report.run h

pub returns-clause-arrived : goal.returns-clause-arrived
returns-clause-arrived c t j r is k m op bytes h = arrived_of (chassis t is) j k m op bytes r.report.run h

pub returns-clause-trails : goal.returns-clause-trails
returns-clause-trails c t j r is m op = tells (chassis t is) j r.report.run m op

pub returns-clause-replies : goal.returns-clause-replies
returns-clause-replies c t j r is = replies_tell (chassis t is) j r.report.run

pub returns-clause-mirrored : goal.returns-clause-mirrored
returns-clause-mirrored c t j r is k older m config there q h port address at down =
    mirrored (chassis t is) j k m config r.report.run there older q h port address at down

pub returns-clause-carries : goal.returns-clause-carries
returns-clause-carries c t j r is entry m op bytes e first rest same chain ks deliveries long kept =
    carried (chassis t is) j entry m op bytes r.report.run e first rest same chain ks deliveries long kept
