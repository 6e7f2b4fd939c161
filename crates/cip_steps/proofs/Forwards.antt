-- A datum that goes on between two links, as the table of connections tells where.
use Rattle.std.proofs.Common.{◌≡◌, ℕ, Bool, true, false, List, [], ◌∷◌, length, refl, sym, ap, subst, ◌∙◌, Option, Some, None, IfSome, is_some, not, ◌==◌}
use Rattle.std.proofs.Common.{if◌then◌else◌}
use Rattle.std.proofs.lemmas.Bool.{eqb-true}
use Rattle.std.specs.Option.{option_map_or}
use Rattle.cip_hops.specs.declared.opening.HopUp.{HopUp}
use Rattle.cip_hops.specs.declared.opening.HopUp.TheVariants.{Link as UpLink, Local}
use Rattle.cip_hops.specs.declared.opening.HopDown.{HopDown}
use Rattle.cip_hops.specs.declared.opening.HopDown.TheVariants.{Link as DownLink, End}
use Rattle.cip_hops.specs.declared.onward.Onward.{Onward}
use Rattle.cip_hops.specs.declared.hop.Hop.{Hop}
use Rattle.cip_hops.specs.declared.hop.Side.{Side}
use Rattle.cip_hops.specs.declared.hop.Side.TheVariants.{Up, Down}
use Rattle.cip_hops.specs.declared.hop.Held.TheVariants.{Open}
use Rattle.cip_hops.specs.Hops.{Hops, hop_at, hop_by_up, hop_by_down, is_hop_by_up, is_hop_by_down, HasId, IsWithin, changed, touched}
use Rattle.cip_hops.specs.Onwards.{onward_up, onward_down, onward_of, hop_by, after_onward}
use Rattle.cip_hops.proofs.Touching.{held_open}
use Rattle.cip_config.specs.declared.config.ModuleSettings.{ModuleSettings}
use Rattle.cip_event.specs.declared.event.Output.{Output}
use Rattle.cip_event.specs.declared.event.Output.TheVariants as outputs
use Rattle.cip_event.specs.declared.event.Body.TheVariants as bodies
use Rattle.cip_routing.specs.DataRows.{DataRow, UnknownId, below_row, id_row, data_row}
use Rattle.cip_config.specs.Config.{port_of}
use Rattle.cip_routing.specs.Effects.{Passes, Renews, datum_by, datum_up, datum_down}
use Rattle.cip_pending.specs.Pendings.{Pendings}
use Rattle.cip_target.specs.Ends.{Ends}
use Rattle.cip_steps.specs.Code.Does.{HasDone}
use Rattle.cip_routing.specs.Code.Fit.{Fit}
use Rattle.cip_routing.specs.Code.Plans.{own_id}
use Rattle.cip_routing.specs.State.{State}
use Rattle.cip_routing.specs.Table.{datum_effects, other}
use Rattle.cip_routing.proofs.Kept.{fit_changed, touched_keeps}
use Rattle.cip_routing.proofs.Found.{found_held}
use Rattle.cip_steps.proofs.DatumRows.{up_named, down_named, renewed_is, up_row, down_row, above_effects, passed_on, by_row}

abbrev pub sent_on : Onward → List ℕ → Output
sent_on onward bytes = outputs.Send onward.port onward.address (bodies.Data onward.id bytes)

-- the size is that of the direction, where anything is told
fits : (n m : ℕ) (b : Bool) (o : Option Onward) (onward : Onward) → (n == m) ≡ b → Some onward ≡ (if b then o else None) → (n ≡ m) × (Some onward ≡ o)
fits n m true o onward e is = (eqb-true n m e, is)
fits n m false o onward e is = absurd cc

down_link : (their_id : Option ℕ) (down : HopDown) (onward : Onward) (hop : Hop) (bytes : List ℕ) → hop.their_id ≡ their_id
    → Some onward ≡ onward_down their_id down
    → (datum_effects bytes (below_row hop bytes down) ≡ Passes hop.opening.triad Down bytes ∷ Renews hop.opening.triad Up ∷ [])
    × (datum_down hop down bytes ≡ sent_on onward bytes)
down_link their_id (DownLink port address) onward hop bytes e is =
    let one : record { port = port; address = address; id = option_map_or (λ id. id) their_id 0 } ≡ onward = cc in
    (refl, ap (λ id. outputs.Send port address (bodies.Data (option_map_or (λ id. id) id 0) bytes)) e ∙ ap (λ o. sent_on o bytes) one)
down_link their_id (End config consume produce) onward hop bytes e is = absurd cc

up_link : (up : HopUp) (onward : Onward) (bytes : List ℕ) → Some onward ≡ onward_up up → datum_up up bytes ≡ sent_on onward bytes
up_link (UpLink port address their_id) onward bytes is =
    let one : record { port = port; address = address; id = their_id } ≡ onward = cc in ap (λ o. sent_on o bytes) one
up_link (Local op) onward bytes is = absurd cc

module _ (config config' : ModuleSettings) (s new : State) (w : IsWithin s.hops) (port : ℕ) (from : List ℕ) (id : ℕ) (bytes : List ℕ) (onward : Onward)
    (same : config' ≡ config) where
  abbrev row : DataRow
  row = id_row bytes (hop_by_up s.hops id port from) (hop_by_down s.hops id port from)

  -- an id is that of one side
  no_up : (hop : Hop) → hop_by_down s.hops id port from ≡ Some hop → (o : Option Hop) → hop_by_up s.hops id port from ≡ o → o ≡ None
  no_up hop e None f = refl
  no_up hop e (Some above) f =
      let up = up_named s.hops w id port from above f in
      let down = down_named s.hops w id port from hop e in
      absurd (w.apart above.opening.triad hop.opening.triad (Open up.hop) (Open down.hop) id (held_open _ up.hop up.stands) (held_open _ down.hop down.stands)
      up.named down.named)

  gone : (side : Side) (hop : Hop) → hop_at s.hops hop.opening.triad ≡ Some hop → HasId (own_id side) s.hops id hop.opening.triad
      → new ≡ record s { hops = changed s.hops hop.opening.triad (touched side s.now) } → datum_by (other side) hop bytes ≡ sent_on onward bytes
      → datum_effects bytes row ≡ Passes hop.opening.triad (other side) bytes ∷ Renews hop.opening.triad side ∷ []
      → HasDone config s config' new (datum_effects bytes row) (sent_on onward bytes ∷ [])
  gone side hop at named after out is =
      by_row config config' s new bytes row _ _ is
      (subst (λ (o : Output). HasDone config s config' new (Passes hop.opening.triad (other side) bytes ∷ Renews hop.opening.triad side ∷ []) (o ∷ [])) out
      (passed_on config config' s new hop.opening.triad hop bytes at same side
      (after ∙ ap (λ h. record s { hops = h }) (sym (renewed_is s.hops w id hop.opening.triad side s.now named)))))

  by_side : (side : Side) (o : Option Hop) → hop_by side s.hops id port from ≡ o → Some onward ≡ onward_of side (length bytes) o
      → new ≡ record s { hops = after_onward s.hops side s.now o (Some onward) }
      → HasDone config s config' new (datum_effects bytes row) (sent_on onward bytes ∷ [])
  by_side side None e is after = absurd cc
  by_side Up (Some hop) e is after =
      let fit = fits (length bytes) hop.opening.ot_size _ (onward_down hop.their_id hop.opening.down) onward refl is in
      let links = down_link hop.their_id hop.opening.down onward hop bytes refl fit.1 in
      gone Up hop (found_held (is_hop_by_up id port from) s.hops hop e w) (up_named s.hops w id port from hop e) after links.1
      (ap (datum_effects bytes) (up_row bytes _ (hop_by_down s.hops id port from) hop hop.opening.down e fit.0 refl) ∙ links.0)
  by_side Down (Some hop) e is after =
      let fit = fits (length bytes) hop.opening.to_size _ (onward_up hop.opening.up) onward refl is in
      gone Down hop (found_held (is_hop_by_down id port from) s.hops hop e w) (down_named s.hops w id port from hop e) after
      (up_link hop.opening.up onward bytes fit.1)
      (ap (datum_effects bytes) (down_row bytes _ (hop_by_down s.hops id port from) hop (no_up hop e _ refl) e fit.0)
      ∙ above_effects hop bytes hop.opening.up)

  here : is_some (port_of config port) ≡ true → row ≡ data_row config s port from id bytes
  unfolding data_row
  here known = sym (ap (λ b. if not b then UnknownId else row) known)

  -- what goes on is what the routing table has
  pub goes_on : (side : Side) → is_some (port_of config port) ≡ true → Some onward ≡ onward_of side (length bytes) (hop_by side s.hops id port from)
      → new ≡ record s { hops = after_onward s.hops side s.now (hop_by side s.hops id port from) (Some onward) }
      → HasDone config s config' new (datum_effects bytes (data_row config s port from id bytes)) (sent_on onward bytes ∷ [])
  goes_on side known is after =
      subst (λ (r : DataRow). HasDone config s config' new (datum_effects bytes r) (sent_on onward bytes ∷ [])) (here known) (by_side side _ refl is after)

-- ---- the module as it keeps itself

pub fit_on : (config : ModuleSettings) (p : Pendings) (h new : Hops) (t : Ends) (ops : List ℕ) → Fit config p h t ops → (side : Side) (now : ℕ)
    (o : Option Hop) (r : Option Onward) → new ≡ after_onward h side now o r → Fit config p new t ops
fit_on config p h new t ops fit side now None r is = subst (λ x. Fit config p x t ops) (sym is) fit
fit_on config p h new t ops fit side now (Some hop) None is = subst (λ x. Fit config p x t ops) (sym is) fit
fit_on config p h new t ops fit side now (Some hop) (Some onward) is =
    fit_changed config p h new t ops hop.opening.triad (touched side now) fit (touched_keeps side now) is

pub if_some : {X : Type 0} (r : Option X) (P : X → Type 0) → ((x : X) → r ≡ Some x → P x) → IfSome r P
if_some None P f = tt
if_some (Some x) P f = f x refl
