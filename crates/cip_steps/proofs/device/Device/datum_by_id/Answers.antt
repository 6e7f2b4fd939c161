use Rattle.std.proofs.Common.{◌≡◌, ◌∷◌, [], ℕ, List, length, sym, ap, subst, ◌∙◌}
use Rattle.cip_hops.specs.declared.opening.HopDown.{HopDown}
use Rattle.cip_hops.specs.declared.hop.Side.TheVariants.{Up, Down}
use Rattle.cip_hops.specs.Hops.{hop_by_down, is_hop_by_up, is_hop_by_down}
use Rattle.cip_config.specs.declared.config.ModuleSettings.{ModuleSettings}
use Rattle.cip_event.specs.declared.event.Output.{Output}
use Rattle.cip_routing.specs.DataRows.{end_row}
use Rattle.cip_routing.specs.Effects.{Passes, Renews, applied, datum_down}
use Rattle.cip_routing.specs.State.{State}
use Rattle.cip_routing.specs.Table.{datum_effects}
use Rattle.cip_steps.specs.Code.Does.{HasDone}
use Rattle.cip_steps.specs.Code.Device.{state_of_device}
use Rattle.cip_routing.specs.Code.Plans.{writing_row, written_effects}
use Rattle.cip_steps.proofs.DatumRows.{up_named, down_named, up_row, down_row, above_effects, passed_on, ended, end_effects, by_row}
use Rattle.cip_routing.proofs.Found.{found_held}
use Rattle.cip_steps.proofs.device.Device.datum_by_id.Goals as goal

pub renews-requires : goal.renews-requires
renews-requires c = record {
  named = (
    c.in-Some.hop.now.opening.triad,
    (up_named c.args.self.now.hops c.is_within.ensures c.args.id c.args.port
        c.args.from.now c.in-Some.hop.now (sym c.in-Some.ensures)),
  );
}

pub renews-requires-in-End : goal.renews-requires-in-End
renews-requires-in-End c = record {
  named = (
    c.in-Some.hop.now.opening.triad,
    (up_named c.args.self.now.hops c.is_within.ensures c.args.id c.args.port
        c.args.from.now c.in-Some.hop.now (sym c.in-Some.ensures)),
  );
}

pub renews-requires-in-Some-by_down : goal.renews-requires-in-Some-by_down
renews-requires-in-Some-by_down c =
    record {
      named = (
        c.in-Some-by_down.hop.now.opening.triad,
        (down_named c.args.self.now.hops c.is_within.ensures c.args.id c.args.port c.args.from.now
            c.in-Some-by_down.hop.now (sym c.in-Some-by_down.ensures)),
      );
    }

pub returns-in-Link : goal.returns-in-Link
returns-in-Link c =
    let m = c.args.self.now in
    let hop = c.in-Some.hop.now in
    let e = sym c.in-Some.ensures in
    let size = ap length (sym c.as_slice.ensures) ∙ c.if-as_slice-from.false ∙ c.from.ensures in
    let row = up_row c.args.bytes _ (hop_by_down m.hops c.args.id c.args.port c.args.from.now) hop _ e size c.in-Link.is in
    let named = up_named m.hops c.is_within.ensures c.args.id c.args.port c.args.from.now hop e in
    let at = found_held (is_hop_by_up c.args.id c.args.port c.args.from.now) m.hops hop e c.is_within.ensures in
    by_row _ _ _ _ c.args.bytes _ _ _ (ap (datum_effects c.args.bytes) row)
    (subst (λ (out : Output). HasDone m.config (state_of_device m) c.renews.new.self.config (state_of_device c.renews.new.self)
    (Passes hop.opening.triad Down c.args.bytes ∷ Renews hop.opening.triad Up ∷ []) (out ∷ [])) (sym c.datum_down-output.ensures)
    (passed_on m.config c.renews.new.self.config (state_of_device m) (state_of_device c.renews.new.self) hop.opening.triad hop c.args.bytes at
    c.renews.ensures.config Up (c.renews.ensures.after hop.opening.triad named)))

pub returns-in-End : goal.returns-in-End
returns-in-End c =
    let m = c.args.self.now in
    let hop = c.in-Some.hop.now in
    let e = sym c.in-Some.ensures in
    let writing = c.written_of-writing.result in
    let es = written_effects hop.opening.triad c.args.bytes writing in
    let size = ap length (sym c.as_slice.ensures) ∙ c.if-as_slice-from.false ∙ c.from.ensures in
    let row = up_row c.args.bytes _ (hop_by_down m.hops c.args.id c.args.port c.args.from.now) hop _ e size c.in-End.is in
    let ends = subst (λ (b : List ℕ). writing_row hop.opening.triad b writing ≡ end_row hop c.in-End.consume b) c.as_slice-in-End.ensures
    c.written_of-writing.ensures in
    let named = up_named m.hops c.is_within.ensures c.args.id c.args.port c.args.from.now hop e in
    let at = found_held (is_hop_by_up c.args.id c.args.port c.args.from.now) m.hops hop e c.is_within.ensures in
    let renewed = c.renews-in-End.ensures.after hop.opening.triad named in
    let after = c.consume_datum.ensures.after
    ∙ ap (λ (config : ModuleSettings). applied config (state_of_device c.renews-in-End.new.self) es) c.renews-in-End.ensures.config
    ∙ ap (λ (t : State). applied m.config t es) renewed in
    let out = c.consume_datum.ensures.value ∙ sym (ap (λ (d : HopDown). datum_down hop d c.args.bytes) c.in-End.is) in
    by_row _ _ _ _ c.args.bytes _ _ _ (ap (datum_effects c.args.bytes) (row ∙ sym ends) ∙ end_effects hop.opening.triad c.args.bytes writing)
    (subst (λ (out : Output). HasDone m.config (state_of_device m) c.consume_datum.new.self.config (state_of_device c.consume_datum.new.self)
    (Passes hop.opening.triad Down c.args.bytes ∷ Renews hop.opening.triad Up ∷ es) (out ∷ [])) (sym out)
    (ended m.config c.consume_datum.new.self.config (state_of_device m) (state_of_device c.consume_datum.new.self) hop.opening.triad hop c.args.bytes at
    (c.consume_datum.ensures.config ∙ c.renews-in-End.ensures.config) writing (sym after)))

pub returns-else-as_slice-from-2 : goal.returns-else-as_slice-from-2
returns-else-as_slice-from-2 c =
    let m = c.args.self.now in
    let hop = c.in-Some-by_down.hop.now in
    let e = sym c.in-Some-by_down.ensures in
    let size = ap length (sym c.as_slice-in-Some-by_down.ensures) ∙ c.if-as_slice-from-2.false ∙ c.from-in-Some-by_down.ensures in
    let row = down_row c.args.bytes _ (hop_by_down m.hops c.args.id c.args.port c.args.from.now) hop (sym c.in_default.ensures) e size in
    let named = down_named m.hops c.is_within.ensures c.args.id c.args.port c.args.from.now hop e in
    let at = found_held (is_hop_by_down c.args.id c.args.port c.args.from.now) m.hops hop e c.is_within.ensures in
    by_row _ _ _ _ c.args.bytes _ _ _ (ap (datum_effects c.args.bytes) row ∙ above_effects hop c.args.bytes hop.opening.up)
    (subst (λ (out : Output). HasDone m.config (state_of_device m) c.renews-in-Some-by_down.new.self.config (state_of_device c.renews-in-Some-by_down.new.self)
    (Passes hop.opening.triad Up c.args.bytes ∷ Renews hop.opening.triad Down ∷ []) (out ∷ [])) (sym c.datum_up-output.ensures)
    (passed_on m.config c.renews-in-Some-by_down.new.self.config (state_of_device m) (state_of_device c.renews-in-Some-by_down.new.self) hop.opening.triad hop
    c.args.bytes at c.renews-in-Some-by_down.ensures.config Down (c.renews-in-Some-by_down.ensures.after hop.opening.triad named)))
