-- A command does what the request does that it spells.
use Rattle.std.proofs.Common.{◌≡◌, ℕ, false, cond, List, [], ◌∷◌, ◌++◌, length, refl, sym, ap, subst, ◌∙◌, Some, Result, Ok, Err}
use Rattle.std.proofs.lemmas.Bool.{eq-eqb}
use Rattle.cip_open.specs.Open.{Open}
use Rattle.cip_pending.specs.declared.entry.UpSide.TheVariants.{Local}
use Rattle.cip_hops.specs.declared.opening.HopUp.TheVariants.{Local as UpLocal}
use Rattle.cip_hops.specs.declared.opening.HopDown.{HopDown}
use Rattle.cip_hops.specs.declared.opening.HopDown.TheVariants.{Link as DownLink, End}
use Rattle.cip_hops.specs.declared.hop.Side.TheVariants.{Down}
use Rattle.cip_hops.specs.declared.hop.Hop.{Hop}
use Rattle.cip_hops.specs.Hops.{hop_at}
use Rattle.cip_config.specs.declared.config.ModuleSettings.{ModuleSettings}
use Rattle.cip_event.specs.declared.event.Output.{Output}
use Rattle.cip_routing.specs.CommandRows.{OpUsed, WrongSize, Taken}
use Rattle.cip_routing.specs.OpenRows.{open_row}
use Rattle.cip_routing.specs.Effects.{Effect, Passes, datum_by, datum_down, passed}
use Rattle.cip_event.specs.Filled.{filled}
use Rattle.cip_routing.specs.Table.{with_spending, refused_effects, open_effects, open_command_effects, enter_effects}
use Rattle.cip_steps.specs.declared.device.Device.{Device}
use Rattle.cip_steps.specs.declared.making.Making.TheVariants.{Anew}
use Rattle.cip_steps.specs.declared.reaction.Reaction.{Reaction}
use Rattle.cip_steps.specs.declared.reaction.Reaction.TheVariants as reactions
use Rattle.cip_steps.specs.Code.Device.{state_of_device}
use Rattle.cip_steps.specs.Code.Does.{Does, HasDone, Handled}
use Rattle.cip_steps.specs.Code.Reacts.{Reacts, ReactsWhole}
use Rattle.cip_routing.specs.State.{State, is_spent}

-- a datum of the connection that was found
pub enters : (config : ModuleSettings) (s : State) (hop : Hop) (bytes : List ℕ) (out : Output) → length bytes ≡ hop.opening.ot_size
    → hop_at s.hops hop.opening.triad ≡ Some hop
    → out ≡ datum_by Down hop bytes → Does config s (enter_effects bytes (Some hop)) s (out ∷ [])
enters config s hop bytes out sized at e =
    subst (λ b. Does config s (refused_effects (cond b Taken WrongSize) (Passes hop.opening.triad Down bytes ∷ [])) s (out ∷ []))
    (sym (eq-eqb (length bytes) hop.opening.ot_size sized))
    (record { state = refl; out = ap (λ x. passed Down x bytes ++ []) at ∙ ap (λ (o : Output). o ∷ []) (sym e) })

-- once it has its bytes
pub down_filled : (hop : Hop) (down : HopDown) (old bytes : List ℕ) → filled (datum_down hop down old) bytes ≡ datum_down hop down bytes
down_filled hop (DownLink port address) old bytes = refl
down_filled hop (End config consume produce) old bytes = refl

abbrev opened_effects : ModuleSettings → State → ℕ → Open → List Effect
opened_effects config s op o = with_spending (Local op) (open_effects s (Local op) o (open_row config s (UpLocal op) o))

-- what one device reacts, so does another with the same state
module _ (m same new : Device) (Came : List ℕ → Type 0) (is : state_of_device same ≡ state_of_device m) (kept : same.config ≡ m.config) where
  moved : (es : List Effect) (outs : List Output) → Handled same new es outs → Handled m new es outs
  moved es outs h = subst (λ (x : State). HasDone m.config x new.config (state_of_device new) es outs) is
      (subst (λ (x : ModuleSettings). HasDone x (state_of_device same) new.config (state_of_device new) es outs) kept h)

  pub of_another : {E : Type 0} (es : List Effect) (r : Result Reaction E) → Reacts Anew Came same new es r → ReactsWhole m new es r
  of_another es (Ok (reactions.Whole o)) h = moved es (o ∷ []) h
  of_another es (Ok (reactions.Edited o edit)) h = absurd (h.0)
  of_another es (Ok (reactions.Several all)) h = moved es all.items h
  of_another es (Err fault) h = record { same_state = h.same_state ∙ is; same_config = h.same_config ∙ kept }

-- an open whose op is new does what the request does that was sent, once there is room for the op
pub opens : {E : Type 0} (m reserved new : Device) (Came : List ℕ → Type 0) (op : ℕ) (r : Result Reaction E) (asked sent : Open)
    → is_spent op m.ops.ops.items ≡ false → state_of_device reserved ≡ state_of_device m → reserved.config ≡ m.config → sent ≡ asked
    → Reacts Anew Came reserved new (opened_effects reserved.config (state_of_device reserved) op sent) r
    → ReactsWhole m new (open_command_effects m.config (state_of_device m) op asked) r
opens m reserved new Came op r asked sent fresh same kept alike h =
    subst (λ b. ReactsWhole m new (refused_effects (cond b OpUsed Taken) (opened_effects m.config (state_of_device m) op asked)) r) (sym fresh)
    (subst (λ (x : Open). ReactsWhole m new (opened_effects m.config (state_of_device m) op x) r) alike
    (subst (λ (x : State). ReactsWhole m new (opened_effects m.config x op sent) r) same
    (subst (λ (x : ModuleSettings). ReactsWhole m new (opened_effects x (state_of_device reserved) op sent) r) kept
    (of_another m reserved new Came same kept (opened_effects reserved.config (state_of_device reserved) op sent) r h))))
