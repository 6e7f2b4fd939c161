use Rattle.std.proofs.Common.{sym, ◌∙◌}
use Rattle.cip_steps.proofs.Sizes.{fit_writes}
use Rattle.cip_steps.proofs.device.Device.writes.Goals as goal

pub invariant_of-self : goal.invariant_of-self
invariant_of-self c =
    let m = c.args.self.now in
    record {
      fit = fit_writes m.config m.pendings m.hops m.target c.consume.new.self m.ops.ops.items c.args.instance c.args.bytes.now c.in-Some.assembly m.fit
          c.in-Some.ensures
          (sym c.from.ensures ∙ c.if-from-bytes.true) c.consume.ensures;
    }
