use Rattle.std.proofs.Common.{sym}
use Rattle.cip_routing.proofs.Kept.{fit_gives_up}
use Rattle.cip_routing.proofs.Waiting.{waits_at}
use Rattle.cip_steps.proofs.device.Device.takes.Goals as goal

pub invariant_of-self-2 : goal.invariant_of-self-2
invariant_of-self-2 c =
    let m = c.args.self.now in
    record {
      fit = fit_gives_up m.config m.pendings c.take.new.self m.hops c.give_up.new.hops m.target m.ops.ops.items c.args.number c.in_ok-entry.entry m.fit
          (waits_at m.pendings c.args.number c.args.port c.args.from.now c.in_ok-entry.entry (sym c.in_ok-entry.ensures.value)) c.in_ok-entry.ensures.after
          c.give_up.ensures;
    }
