use Rattle.std.proofs.Common.{sym, ap, subst, ◌∙◌}
use Rattle.cip_hops.specs.declared.hop.Side.{Side}
use Rattle.cip_hops.specs.declared.hop.Side.TheVariants.{Up, Down}
use Rattle.cip_hops.specs.Hops.{Hops, HasId, touched}
use Rattle.cip_routing.specs.Effects.{renewed}
use Rattle.cip_steps.specs.Code.Device.{state_of_device}
use Rattle.cip_routing.specs.Code.Plans.{own_id}
use Rattle.cip_steps.proofs.DatumRows.{renewed_is}
use Rattle.cip_routing.proofs.Kept.{fit_changed, touched_keeps}
use Rattle.cip_steps.proofs.device.Device.renews.Goals as goal

pub invariant_of-self : goal.invariant_of-self
invariant_of-self c =
    let m = c.args.self.now in
    let n = c.requires.named in
    let named = subst (λ (s : Side). HasId (own_id s) m.hops c.args.id n.0) c.in-Up.is n.1 in record {
      fit = fit_changed m.config m.pendings m.hops c.touch_up.new.self m.target m.ops.ops.items n.0 (touched Up c.now-now.result) m.fit
          (touched_keeps Up c.now-now.result) (c.touch_up.ensures n.0 named);
    }

pub invariant_of-self-in-Down : goal.invariant_of-self-in-Down
invariant_of-self-in-Down c =
    let m = c.args.self.now in
    let n = c.requires.named in
    let named = subst (λ (s : Side). HasId (own_id s) m.hops c.args.id n.0) c.in-Down.is n.1 in record {
      fit = fit_changed m.config m.pendings m.hops c.touch_down.new.self m.target m.ops.ops.items n.0 (touched Down c.now-now.result) m.fit
          (touched_keeps Down c.now-now.result) (c.touch_down.ensures n.0 named);
    }

pub returns-in-Up-clause-after : goal.returns-in-Up-clause-after
returns-in-Up-clause-after c = λ triad n.
    let m = c.args.self.now in
    let named = subst (λ (s : Side). HasId (own_id s) m.hops c.args.id triad) c.in-Up.is n in
    ap (λ (h : Hops). record (state_of_device m) { hops = h })
    (c.touch_up.ensures triad named ∙ sym (renewed_is m.hops c.is_within.ensures c.args.id triad Up c.now-now.result named)
    ∙ ap (renewed m.hops triad Up) c.now-now.ensures.value ∙ ap (λ (s : Side). renewed m.hops triad s m.clock) (sym c.in-Up.is))

pub returns-in-Down-clause-after : goal.returns-in-Down-clause-after
returns-in-Down-clause-after c = λ triad n.
    let m = c.args.self.now in
    let named = subst (λ (s : Side). HasId (own_id s) m.hops c.args.id triad) c.in-Down.is n in
    ap (λ (h : Hops). record (state_of_device m) { hops = h })
    (c.touch_down.ensures triad named ∙ sym (renewed_is m.hops c.is_within.ensures c.args.id triad Down c.now-now.result named)
    ∙ ap (renewed m.hops triad Down) c.now-now.ensures.value ∙ ap (λ (s : Side). renewed m.hops triad s m.clock) (sym c.in-Down.is))
