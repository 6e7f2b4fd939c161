-- A datum of the size of a connection that is found gives exactly the output of that connection: it is passed on, consumed or arrived.
use Rattle.std.proofs.Common.{◌≡◌, ℕ, true, false, cond, not, is_some, List, [], ◌∷◌, ◌++◌, length, drop, eqb, Some, None, sym, ap, ◌∙◌}
use Rattle.std.proofs.lemmas.Bool.{eq-eqb}
use Rattle.cip_message.specs.Numbers.{word_in}
use Rattle.cip_hops.specs.declared.opening.HopDown.{HopDown}
use Rattle.cip_hops.specs.declared.opening.HopDown.TheVariants.{Link as DownLink, End}
use Rattle.cip_hops.specs.declared.opening.HopUp.{HopUp}
use Rattle.cip_hops.specs.declared.opening.HopUp.TheVariants.{Link as UpLink, Local as UpLocal}
use Rattle.cip_hops.specs.declared.hop.Hop.{Hop}
use Rattle.cip_hops.specs.declared.hop.Side.TheVariants.{Up, Down}
use Rattle.cip_hops.specs.Hops.{hop_at, hop_by_up, hop_by_down, hop_by_op, is_hop_by_up, is_hop_by_down, is_hop_by_op}
use Rattle.cip_config.specs.declared.config.ModuleSettings.{ModuleSettings}
use Rattle.cip_routing.specs.CommandRows as command
use Rattle.cip_event.specs.declared.event.Body.TheVariants as bodies
use Rattle.cip_event.specs.declared.event.Command.TheVariants as commands
use Rattle.cip_event.specs.declared.event.Event.TheVariants as events
use Rattle.cip_event.specs.declared.event.Output.{Output}
use Rattle.cip_config.specs.Config.{port_of}
use Rattle.cip_routing.specs.DataRows.{DataRow, UnknownId, WrongSize, Consumed, Repeated, is_last, below_row, above_row, id_row, data_row}
use Rattle.cip_routing.specs.Effects.{Effect, datum_by, passed, outputs_of}
use Rattle.cip_routing.specs.State.{State}
use Rattle.cip_routing.specs.Table.{datum_effects, entered_effects, enter_effects, refused_effects, decide}
use Rattle.cip_laws.proofs.PassedBy.{found_own}
use Rattle.cip_laws.proofs.Triads.{HasOwnTriads}

module _ (config : ModuleSettings) (s : State) (own : HasOwnTriads s) (port id : ℕ) (from bytes : List ℕ) (has : is_some (port_of config port) ≡ true)
    (hop : Hop) where
  -- the row decides what is given
  given : (row : DataRow) (out : List Output) (es : List Effect) → data_row config s port from id bytes ≡ row
      → outputs_of config s (datum_effects bytes row) ≡ out
      → decide config s (events.Frame port from (bodies.Data id bytes)) ≡ Some es → outputs_of config s es ≡ out
  given row out es met gives decided =
      let whole : Some (datum_effects bytes (data_row config s port from id bytes)) ≡ Some es = decided in
      let same : datum_effects bytes (data_row config s port from id bytes) ≡ es = cc in
      ap (outputs_of config s) (sym same) ∙ ap (λ r. outputs_of config s (datum_effects bytes r)) met ∙ gives

  -- ---- from the device above, or at the end

  up_row : hop_by_up s.hops id port from ≡ Some hop → length bytes ≡ hop.opening.ot_size
      → data_row config s port from id bytes ≡ below_row hop bytes hop.opening.down
  unfolding data_row
  up_row found sized =
      ap (λ b. cond (not b) UnknownId (id_row bytes (hop_by_up s.hops id port from) (hop_by_down s.hops id port from))) has
      ∙ ap (λ x. id_row bytes x (hop_by_down s.hops id port from)) found
      ∙ ap (λ b. cond (not b) WrongSize (below_row hop bytes hop.opening.down)) (eq-eqb (length bytes) hop.opening.ot_size sized)

  passes_down : (down : HopDown) → hop_at s.hops hop.opening.triad ≡ Some hop
      → outputs_of config s (datum_effects bytes (below_row hop bytes down)) ≡ datum_by Down hop bytes ∷ []
  passes_down (DownLink p a) stands = ap (λ x. passed Down x bytes ++ []) stands
  passes_down (End c consume produce) stands =
      elim (eqb hop.opening.class 1) as (λ b. outputs_of config s (datum_effects bytes (cond (not b) (Consumed hop.opening.triad consume None bytes)
      (cond (is_last (word_in bytes 0) hop.consumed) (Repeated hop.opening.triad)
      (Consumed hop.opening.triad consume (Some (word_in bytes 0)) (drop 2 bytes))))) ≡ datum_by Down hop bytes ∷ []) [
        | true ↦ elim (is_last (word_in bytes 0) hop.consumed) as (λ b. outputs_of config s (datum_effects bytes
            (cond b (Repeated hop.opening.triad) (Consumed hop.opening.triad consume (Some (word_in bytes 0)) (drop 2 bytes)))) ≡ datum_by Down hop bytes
            ∷ []) [
              | true ↦ ap (λ x. passed Down x bytes ++ []) stands
              | false ↦ ap (λ x. passed Down x bytes ++ []) stands
            ]
        | false ↦ ap (λ x. passed Down x bytes ++ []) stands
      ]

  pub goes_down : (es : List Effect) → hop_by_up s.hops id port from ≡ Some hop → length bytes ≡ hop.opening.ot_size
      → decide config s (events.Frame port from (bodies.Data id bytes)) ≡ Some es → outputs_of config s es ≡ datum_by Down hop bytes ∷ []
  goes_down es found sized decided =
      given (below_row hop bytes hop.opening.down) (datum_by Down hop bytes ∷ []) es (up_row found sized)
      (passes_down hop.opening.down (found_own (is_hop_by_up id port from) s.hops hop found own).0) decided

  -- ---- from the device below, where no connection has the id above

  down_row : hop_by_up s.hops id port from ≡ None → hop_by_down s.hops id port from ≡ Some hop → length bytes ≡ hop.opening.to_size
      → data_row config s port from id bytes ≡ above_row hop hop.opening.up
  unfolding data_row
  down_row none found sized =
      ap (λ b. cond (not b) UnknownId (id_row bytes (hop_by_up s.hops id port from) (hop_by_down s.hops id port from))) has
      ∙ ap (λ x. id_row bytes x (hop_by_down s.hops id port from)) none
      ∙ ap (id_row bytes None) found
      ∙ ap (λ b. cond (not b) WrongSize (above_row hop hop.opening.up)) (eq-eqb (length bytes) hop.opening.to_size sized)

  passes_up : (up : HopUp) → hop_at s.hops hop.opening.triad ≡ Some hop
      → outputs_of config s (datum_effects bytes (above_row hop up)) ≡ datum_by Up hop bytes ∷ []
  passes_up (UpLink p a their_id) stands = ap (λ x. passed Up x bytes ++ []) stands
  passes_up (UpLocal op) stands = ap (λ x. passed Up x bytes ++ []) stands

  pub goes_up : (es : List Effect) → hop_by_up s.hops id port from ≡ None → hop_by_down s.hops id port from ≡ Some hop → length bytes ≡ hop.opening.to_size
      → decide config s (events.Frame port from (bodies.Data id bytes)) ≡ Some es → outputs_of config s es ≡ datum_by Up hop bytes ∷ []
  goes_up es none found sized decided =
      given (above_row hop hop.opening.up) (datum_by Up hop bytes ∷ []) es (down_row none found sized)
      (passes_up hop.opening.up (found_own (is_hop_by_down id port from) s.hops hop found own).0) decided

-- ---- a datum that is entered by the op that opened

pub goes_entered : (config : ModuleSettings) (s : State) → HasOwnTriads s → (of : ℕ) (bytes : List ℕ) (hop : Hop) (es : List Effect)
    → hop_by_op s.hops of ≡ Some hop → length bytes ≡ hop.opening.ot_size
    → decide config s (events.Command (commands.Enter of bytes)) ≡ Some es → outputs_of config s es ≡ datum_by Down hop bytes ∷ []
goes_entered config s own of bytes hop es found sized decided =
    let whole : Some (enter_effects bytes (hop_by_op s.hops of)) ≡ Some es = decided in
    let same : enter_effects bytes (hop_by_op s.hops of) ≡ es = cc in
    let stands = (found_own (is_hop_by_op of) s.hops hop found own).0 in
    ap (outputs_of config s) (sym same) ∙ ap (λ x. outputs_of config s (enter_effects bytes x)) found
    ∙ ap (λ b. outputs_of config s (refused_effects (cond b command.Taken command.WrongSize) (entered_effects bytes (Some hop))))
    (eq-eqb (length bytes) hop.opening.ot_size sized)
    ∙ ap (λ x. passed Down x bytes ++ []) stands
