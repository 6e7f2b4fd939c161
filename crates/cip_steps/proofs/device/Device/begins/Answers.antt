use Rattle.std.proofs.Common.{ap, ◌∙◌, is_ok}
use Rattle.cip_hops.specs.Hops.{begun, unless_refused}
use Rattle.cip_routing.proofs.Kept.{fit_begins}
use Rattle.cip_steps.proofs.Spending.{if_true}
use Rattle.cip_steps.proofs.device.Device.begins.Goals as goal

pub invariant_of-self : goal.invariant_of-self
invariant_of-self c =
    let m = c.args.self.now in
    let o = c.args.opening in
    let g = if_true (is_ok c.begin.result) (begun m.hops o) m.hops c.begin.new.self c.begin.ensures.after
    (ap is_ok (c.begin.ensures.value ∙ ap (λ r. unless_refused r m.hops.next o) c.requires.ready.room)) in
    record {
      fit = fit_begins m.config m.pendings c.add.new.self m.hops c.begin.new.self m.target m.ops.ops.items c.args.entry o m.fit c.is_within.ensures
          c.in-Ok.ensures.after g c.requires.kind c.requires.link c.requires.ready.spent c.requires.ready.room;
    }
