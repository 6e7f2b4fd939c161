-- What a datum tells that came by a link, read backwards.
use Rattle.std.proofs.Common.{◌≡◌, ℕ, Bool, true, false, cond, eqb, not, is_some, List, length, drop, refl, sym, ap, subst, ◌∙◌, Option, Some, None}
use Rattle.std.proofs.lemmas.Bool.{eqb-true}
use Rattle.cip_message.specs.Numbers.{word_in}
use Rattle.cip_hops.specs.declared.opening.HopUp.{HopUp}
use Rattle.cip_hops.specs.declared.opening.HopUp.TheVariants.{Link as UpLink, Local as UpLocal}
use Rattle.cip_hops.specs.declared.opening.HopDown.{HopDown}
use Rattle.cip_hops.specs.declared.opening.HopDown.TheVariants.{Link as DownLink, End}
use Rattle.cip_hops.specs.declared.hop.Hop.{Hop}
use Rattle.cip_hops.specs.declared.hop.Side.{Side}
use Rattle.cip_hops.specs.declared.hop.Side.TheVariants.{Up, Down}
use Rattle.cip_hops.specs.Hops.{hop_by_up, hop_by_down}
use Rattle.cip_config.specs.declared.config.ModuleSettings.{ModuleSettings}
use Rattle.cip_event.specs.declared.event.Event.{Event}
use Rattle.cip_event.specs.declared.event.Event.TheVariants.{Frame}
use Rattle.cip_event.specs.declared.event.Body.TheVariants.{Data}
use Rattle.cip_event.specs.declared.event.Dropped.{Dropped}
use Rattle.cip_event.specs.declared.event.Dropped.TheVariants as dropped
use Rattle.cip_config.specs.Config.{port_of}
use Rattle.cip_routing.specs.DataRows.{DataRow, UnknownId, WrongSize, Repeated, Consumed, is_last, below_row, above_row, id_row, data_row}
use Rattle.cip_routing.specs.State.{State}
use Rattle.cip_routing.specs.Table.{datum_effects}
use Rattle.cip_laws.specs.Tells.{DatumCame, DatumWritten, PassedOn, CountedUp, Taken, RenewsAs, DropsAs, datum_dropped, AllTell}

-- ---- from the device above

renews : (s : State) (event : Event) (side : Side) (hop : Hop) (bytes : List ℕ) → DatumCame s event side hop bytes → RenewsAs s event hop.opening.triad side
renews s event side hop bytes came = record { hop = hop; bytes = bytes; came = came; triad_is = refl }

-- at an end, by its class and its count
end_told : (config : ModuleSettings) (s : State) (event : Event) (hop : Hop) (instance : ℕ) (bytes : List ℕ) (first last : Bool)
    → DatumCame s event Up hop bytes
    → eqb hop.opening.class 1 ≡ first → is_last (word_in bytes 0) hop.consumed ≡ last
    → ((hop.opening.class ≡ 1 → is_last (word_in bytes 0) hop.consumed ≡ false) → DatumWritten s event hop instance bytes)
    → AllTell config s event (datum_effects bytes (cond (not first) (Consumed hop.opening.triad instance None bytes)
    (cond last (Repeated hop.opening.triad) (Consumed hop.opening.triad instance (Some (word_in bytes 0)) (drop 2 bytes)))))
end_told config s event hop instance bytes false last came class count written =
    let plain = written (λ one. absurd (let is : eqb hop.opening.class 1 ≡ true = ap (λ n. eqb n 1) one in let both : true ≡ false = sym is ∙ class in cc)) in
    (PassedOn hop refl came, (renews s event Up hop bytes came, (Taken hop bytes (sym (ap (λ b. cond b (drop 2 bytes) bytes) class)) plain, tt)))
end_told config s event hop instance bytes true true came class count written = (PassedOn hop refl came, (renews s event Up hop bytes came, tt))
end_told config s event hop instance bytes true false came class count written =
    let counted = written (λ one. count) in (
      PassedOn hop refl came,
      (
        renews s event Up hop bytes came,
        (
          Taken hop bytes (sym (ap (λ b. cond b (drop 2 bytes) bytes) class)) counted,
          (CountedUp hop instance bytes refl refl (eqb-true hop.opening.class 1 class) refl counted, tt),
        ),
      ),
    )

below_told : (config : ModuleSettings) (s : State) (event : Event) (hop : Hop) (bytes : List ℕ) (down : HopDown) → DatumCame s event Up hop bytes
    → hop.opening.down ≡ down
    → AllTell config s event (datum_effects bytes (below_row hop bytes down))
below_told config s event hop bytes (DownLink port address) came is = (PassedOn hop refl came, (renews s event Up hop bytes came, tt))
below_told config s event hop bytes (End configuration consume produce) came is =
    end_told config s event hop consume bytes (eqb hop.opening.class 1) (is_last (word_in bytes 0) hop.consumed) came refl refl
    (λ unlike. record { config = configuration; produce = produce; came = came; ends = is; unlike = unlike })

-- ---- by the size, and by the id

module _ (config : ModuleSettings) (s : State) (port : ℕ) (from : List ℕ) (id : ℕ) (bytes : List ℕ) where
  -- the datum meets this row
  abbrev Meets : DataRow → Type 0
  Meets row = data_row config s port from id bytes ≡ row

  abbrev Told : DataRow → Type 0
  Told row = AllTell config s (Frame port from (Data id bytes)) (datum_effects bytes row)

  drops : (row : DataRow) (reason : Dropped) → Meets row → datum_dropped row ≡ Some reason → DropsAs config s (Frame port from (Data id bytes)) reason
  drops row reason meets is = record { port = port; from = from; body = Data id bytes; event_is = refl; meets = ap datum_dropped meets ∙ is }

  up_told : (hop : Hop) (b : Bool) → hop_by_up s.hops id port from ≡ Some hop → eqb (length bytes) hop.opening.ot_size ≡ b
      → Meets (cond (not b) WrongSize (below_row hop bytes hop.opening.down)) → Told (cond (not b) WrongSize (below_row hop bytes hop.opening.down))
  up_told hop false found sized meets = (drops WrongSize dropped.WrongSize meets refl, tt)
  up_told hop true found sized meets =
      let came : DatumCame s (Frame port from (Data id bytes)) Up hop bytes =
      record { port = port; from = from; id = id; event_is = refl; found = found; sized = eqb-true (length bytes) hop.opening.ot_size sized } in
      below_told config s (Frame port from (Data id bytes)) hop bytes hop.opening.down came refl

  above_told : (hop : Hop) (up : HopUp) → DatumCame s (Frame port from (Data id bytes)) Down hop bytes → Told (above_row hop up)
  above_told hop (UpLink own there their_id) came = (PassedOn hop refl came, (renews s (Frame port from (Data id bytes)) Down hop bytes came, tt))
  above_told hop (UpLocal op) came = (PassedOn hop refl came, (renews s (Frame port from (Data id bytes)) Down hop bytes came, tt))

  down_told : (hop : Hop) (b : Bool) → hop_by_down s.hops id port from ≡ Some hop → eqb (length bytes) hop.opening.to_size ≡ b
      → Meets (cond (not b) WrongSize (above_row hop hop.opening.up)) → Told (cond (not b) WrongSize (above_row hop hop.opening.up))
  down_told hop false found sized meets = (drops WrongSize dropped.WrongSize meets refl, tt)
  down_told hop true found sized meets =
      above_told hop hop.opening.up
      (record { port = port; from = from; id = id; event_is = refl; found = found; sized = eqb-true (length bytes) hop.opening.to_size sized })

  id_told : (above below : Option Hop) → hop_by_up s.hops id port from ≡ above → hop_by_down s.hops id port from ≡ below → Meets (id_row bytes above below)
      → Told (id_row bytes above below)
  id_told (Some hop) below a b meets = up_told hop (eqb (length bytes) hop.opening.ot_size) a refl meets
  id_told None None a b meets = (drops UnknownId dropped.UnknownId meets refl, tt)
  id_told None (Some hop) a b meets = down_told hop (eqb (length bytes) hop.opening.to_size) b refl meets

  port_told : (b : Bool) → Meets (cond (not b) UnknownId (id_row bytes (hop_by_up s.hops id port from) (hop_by_down s.hops id port from)))
      → Told (cond (not b) UnknownId (id_row bytes (hop_by_up s.hops id port from) (hop_by_down s.hops id port from)))
  port_told false meets = (drops UnknownId dropped.UnknownId meets refl, tt)
  port_told true meets = id_told (hop_by_up s.hops id port from) (hop_by_down s.hops id port from) refl refl meets

-- ---- the group

data_row_is : (config : ModuleSettings) (s : State) (port : ℕ) (from : List ℕ) (id : ℕ) (bytes : List ℕ)
    → data_row config s port from id bytes
    ≡ cond (not (is_some (port_of config port))) UnknownId (id_row bytes (hop_by_up s.hops id port from) (hop_by_down s.hops id port from))
unfolding data_row
data_row_is config s port from id bytes = refl

pub data_tell : (config : ModuleSettings) (s : State) (port : ℕ) (from : List ℕ) (id : ℕ) (bytes : List ℕ)
    → AllTell config s (Frame port from (Data id bytes)) (datum_effects bytes (data_row config s port from id bytes))
data_tell config s port from id bytes =
    let row = data_row_is config s port from id bytes in
    subst (λ (r : DataRow). AllTell config s (Frame port from (Data id bytes)) (datum_effects bytes r)) (sym row)
    (port_told config s port from id bytes (is_some (port_of config port)) row)
