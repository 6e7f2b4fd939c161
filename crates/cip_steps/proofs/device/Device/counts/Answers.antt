use Rattle.cip_hops.specs.Hops.{counted}
use Rattle.cip_routing.proofs.Kept.{fit_changed, counted_keeps}
use Rattle.cip_steps.proofs.device.Device.counts.Goals as goal

pub invariant_of-self : goal.invariant_of-self
invariant_of-self c =
    let m = c.args.self.now in
    record {
      fit = fit_changed m.config m.pendings m.hops c.set_count.new.self m.target m.ops.ops.items c.args.triad.now (counted c.args.side c.args.count) m.fit
          (counted_keeps c.args.side c.args.count) c.set_count.ensures;
    }
