use Rattle.std.proofs.Common.{sym}
use Rattle.cip_routing.proofs.Removed.{fit_gone}
use Rattle.cip_steps.proofs.device.Device.removes.Goals as goal

pub invariant_of-self : goal.invariant_of-self
invariant_of-self c =
    let m = c.args.self.now in
    record {
      fit = fit_gone m.config m.pendings m.hops c.remove.new.self m.target c.release.new.target m.ops.ops.items c.args.triad.now c.in-Some.hop m.fit
          (sym c.in-Some.ensures.value) c.in-Some.ensures.after c.release.ensures.after;
    }
