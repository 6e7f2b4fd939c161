use Rattle.std.proofs.Common.{sym}
use Rattle.cip_routing.proofs.Waiting.{awaited_at, fit_finished}
use Rattle.cip_steps.proofs.device.Device.finishes.Goals as goal

pub finish-requires-clause-opening : goal.finish-requires-clause-opening
finish-requires-clause-opening c =
    let m = c.args.self.now in
    let at = sym c.in_ok-entry.ensures.value in
    m.fit.paired.each c.args.triad.now c.args.number
    (awaited_at m.pendings c.args.number c.args.port c.args.from.now c.in_ok-entry.entry c.args.triad.now at
    (c.requires.kind c.in_ok-entry.entry at))

pub invariant_of-self-2 : goal.invariant_of-self-2
invariant_of-self-2 c =
    let m = c.args.self.now in
    let at = sym c.in_ok-entry.ensures.value in
    record {
      fit = fit_finished m.config m.pendings c.take.new.self m.hops c.finish.new.self m.target m.ops.ops.items c.args.number c.args.their_id c.now-now.result
          c.args.triad.now m.fit
          (awaited_at m.pendings c.args.number c.args.port c.args.from.now c.in_ok-entry.entry c.args.triad.now at
          (c.requires.kind c.in_ok-entry.entry at))
          c.in_ok-entry.ensures.after c.finish.ensures;
    }
