use Rattle.std.proofs.Common.{ap, ◌∙◌, sym, is_some}
use Rattle.cip_open.specs.Reading.{open_of}
use Rattle.cip_hops.specs.Hops.{Hops, opening_at, finished}
use Rattle.cip_hops.specs.Sides.{ids_drawn}
use Rattle.cip_steps.proofs.Accepted.{begun_opens, fit_accepts}
use Rattle.cip_routing.proofs.Kept.{free_if}
use Rattle.cip_steps.proofs.device.Device.accepts.Goals as goal

pub finish-requires-clause-opening : goal.finish-requires-clause-opening
finish-requires-clause-opening c =
    ap (λ (h : Hops). is_some (opening_at h c.args.opening.triad)) c.in-Ok.ensures.after ∙ ap is_some (begun_opens c.args.self.now.hops c.args.opening)

pub invariant_of-self : goal.invariant_of-self
invariant_of-self c =
    let m = c.args.self.now in
    let o = c.args.opening in
    record {
      fit = fit_accepts m.config m.pendings m.hops c.finish.new.self m.target c.accept.new.self m.ops.ops.items o (open_of c.args.view.now) c.args.link.now
          c.now-now.result m.fit
          (free_if m.hops o.triad (ids_drawn o) c.requires.ready.room) c.requires.down (sym c.requires.triad) c.requires.fits c.requires.ready.spent
          (c.finish.ensures ∙ ap (λ (h : Hops). finished h o.triad 0 c.now-now.result) c.in-Ok.ensures.after) c.accept.ensures;
    }
