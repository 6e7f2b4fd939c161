use Rattle.cip_routing.proofs.Kept.{fit_spent}
use Rattle.cip_steps.proofs.device.Device.spends.Goals as goal

pub invariant_of-self : goal.invariant_of-self
invariant_of-self c =
    let m = c.args.self.now in
    record { fit = fit_spent m.config m.pendings m.hops m.target m.ops.ops.items c.spend.new.self.ops.items c.args.op m.fit c.spend.ensures }
