use Rattle.std.proofs.Common.{arith}
use Rattle.cip_world.proofs.Delivered.{comes_within, within_boxes, comes_given, frame_fault}
use Rattle.cip_world.proofs.world.World.bring.Goals as goal

pub step_module-requires-clause-there : goal.step_module-requires-clause-there
step_module-requires-clause-there g c =
    let inside = comes_within c.args.self.now.ledger.plan c.args.self.now.ledger.journal c.args.name c.in-Some.coming c.in-Some.ensures.some in
    let boxes = within_boxes _ c.args.self.now.modules.items c.in-Some.coming.at.0 _ c.requires.stand.stand.count (omega (arith, inside)) in
    let vec = c.args.self.now.modules.ok in
    omega (arith, boxes, vec)

pub step_module-requires-clause-given : goal.step_module-requires-clause-given
step_module-requires-clause-given g c =
    comes_given c.args.self.now.ledger.plan c.args.self.now.ledger.journal c.args.name c.in-Some.coming c.copy-from.result c.copy-2.result c.in_ok-body.body
    c.in-Some.ensures.some c.copy-from.ensures c.copy-2.ensures c.in_ok-body.ensures

pub returns-clause-fault : goal.returns-clause-fault
returns-clause-fault g c =
    frame_fault c.args.self.now.ledger.plan c.args.self.now.ledger.journal c.in-Some.coming.at.0 c.args.self.now.ledger.plan c.args.self.now.ledger.journal
    c.args.name c.in-Some.coming.port c.copy-from.result c.in_ok-body.body c.step_module.result
    (comes_within c.args.self.now.ledger.plan c.args.self.now.ledger.journal c.args.name c.in-Some.coming c.in-Some.ensures.some)
    c.step_module.ensures.fault
