use Rattle.std.proofs.Common.{ap, ◌∙◌, is_ok}
use Rattle.cip_pending.specs.Pendings.{added, unless_refused}
use Rattle.cip_routing.proofs.Kept.{fit_forwards}
use Rattle.cip_steps.proofs.Spending.{if_true}
use Rattle.cip_steps.proofs.device.Device.forwards.Goals as goal

pub invariant_of-self : goal.invariant_of-self
invariant_of-self c =
    let m = c.args.self.now in
    let e = if_true (is_ok c.add.result) (added m.pendings c.args.entry) m.pendings c.add.new.self c.add.ensures.after
    (ap is_ok (c.add.ensures.value ∙ ap (λ r. unless_refused r m.pendings.next c.args.entry) c.requires.room)) in
    record {
      fit = fit_forwards m.config m.pendings c.add.new.self m.hops m.target m.ops.ops.items c.args.entry m.fit c.is_within.ensures e
          c.requires.other;
    }
