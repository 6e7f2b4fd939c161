use Rattle.std.proofs.Common.{rules, Some, refl, sym, ap, ◌∙◌, ◌∷◌, []}
use Rattle.cip_hops.specs.Hops.{Hops}
use Rattle.cip_hops.specs.Onwards.{hop_by, after_onward}
use Rattle.cip_event.specs.declared.event.Body.TheVariants.{Data}
use Rattle.cip_event.specs.declared.event.Event.TheVariants.{Frame}
use Rattle.cip_routing.specs.DataRows.{data_row}
use Rattle.cip_steps.specs.Code.Device.{state_of_device}
use Rattle.cip_routing.specs.Table.{datum_effects}
use Rattle.cip_steps.proofs.Forwards.{sent_on, goes_on, fit_on, if_some}
use Rattle.cip_steps.proofs.InPlace.{is_step}
use Rattle.cip_steps.proofs.device.Device.pass_on.Goals as goal

pub invariant_of-self : goal.invariant_of-self
invariant_of-self c = let m = c.args.self.now in record {
  fit = fit_on m.config m.pendings m.hops c.pass_on.new.self m.target m.ops.ops.items m.fit c.args.side c.now-now.result
      (hop_by c.args.side m.hops c.args.id c.args.port c.args.from.now) c.pass_on.result c.pass_on.ensures.after;
}

pub returns-clause-on : goal.returns-clause-on
returns-clause-on c = if_some c.pass_on.result _ (λ onward is.
    let m = c.args.self.now in
    let s = state_of_device m in
    let b = c.args.bytes.now in
    let hop = hop_by c.args.side m.hops c.args.id c.args.port c.args.from.now in
    let after = ap (λ (h : Hops). record (state_of_device m) { hops = h }) (c.pass_on.ensures.after
    ∙ ap (after_onward m.hops c.args.side c.now-now.result hop) is
    ∙ ap (λ now. after_onward m.hops c.args.side now hop (Some onward)) c.now-now.ensures.value) in
    let done = goes_on m.config _ s _ c.is_within.ensures c.args.port c.args.from.now c.args.id b onward refl c.args.side (search rules)
    (sym is ∙ c.pass_on.ensures.value) after in
    is_step m.config s _ (Frame c.args.port c.args.from.now (Data c.args.id b))
    (datum_effects b (data_row m.config s c.args.port c.args.from.now c.args.id b)) (sent_on onward b ∷ []) refl done.does)
