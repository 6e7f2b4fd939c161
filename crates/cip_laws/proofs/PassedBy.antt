-- Which connection a datum went by, and one step back along it.
use Rattle.std.proofs.Common.{◌≡◌, ℕ, true, false, List, [], ◌∷◌, ◌++◌, Option, Some, None, refl, sym, ap, ◌∙◌, inl, inr, arith, eqb, Bool}
use Rattle.std.specs.FinMap as map
use Rattle.std.specs.Str.{bytes_eq}
use Rattle.std.proofs.lemmas.Bool.{and_parts, eqb-true}
use Rattle.std.proofs.lemmas.Slice.Eq.{bytes_eq-Decides}
use Rattle.cip_base.specs.declared.triad.Triad.{Triad}
use Rattle.cip_message.specs.Reply.{reply_bytes}
use Rattle.cip_pending.specs.declared.entry.Entry as entries
use Rattle.cip_pending.specs.declared.entry.UpSide.{UpSide}
use Rattle.cip_pending.specs.declared.entry.UpSide.TheVariants.{Link, Local}
use Rattle.cip_hops.specs.declared.opening.HopUp.{HopUp}
use Rattle.cip_hops.specs.declared.opening.HopUp.TheVariants.{Link as UpLink, Local as UpLocal}
use Rattle.cip_hops.specs.declared.hop.Hop.{Hop}
use Rattle.cip_hops.specs.declared.hop.Side.{Side}
use Rattle.cip_hops.specs.declared.hop.Side.TheVariants.{Down}
use Rattle.cip_hops.specs.Sides.{op_of, up_is}
use Rattle.cip_hops.specs.Hops.{is_id, hop_at, is_hop_by_up, hop_by_op}
use Rattle.cip_laws.specs.EffectLists.{gain}
use Rattle.cip_config.specs.declared.config.ModuleSettings.{ModuleSettings}
use Rattle.cip_event.specs.declared.event.Body.TheVariants as bodies
use Rattle.cip_event.specs.declared.event.Command.TheVariants as commands
use Rattle.cip_event.specs.declared.event.Event.{Event}
use Rattle.cip_event.specs.declared.event.Event.TheVariants as events
use Rattle.cip_event.specs.declared.event.Output.{Output}
use Rattle.cip_routing.specs.CommandRows.{CommandRow}
use Rattle.cip_routing.specs.CommandRows as command
use Rattle.cip_routing.specs.CommandRows.{enter_row}
use Rattle.cip_routing.specs.DataRows.{DataRow, data_row}
use Rattle.cip_routing.specs.DataRows as datum
use Rattle.cip_routing.specs.Effects.{Effect, Replies, Answers, Forwards, Begins, Finishes, Takes, PendingTimesOut, HopTimesOut, Passes, RefusesCommand, Drops}
use Rattle.cip_routing.specs.Effects.{resets, here_answer, ended_by, reply_up, replied, timed_out_reply, timed_out_bytes, datum_by, passed, output_of, applied}
use Rattle.cip_routing.specs.Effects.{succeeded_at}
use Rattle.cip_routing.specs.State.{State}
use Rattle.cip_routing.specs.Table.{counts, datum_effects, enter_effects, entered_effects, refused_effects, decide}
use Rattle.cip_laws.specs.Tells.{PassesAs, PassedOn, Entered, Made}
use Rattle.cip_laws.specs.Histories.{Turn, state_after, IsHistory}
use Rattle.cip_laws.specs.Turns.{Has}
use Rattle.cip_laws.proofs.Births.{gain-append}
use Rattle.cip_laws.proofs.Triads.{HasOwnTriads, own_triads}
use Rattle.cip_laws.proofs.Turns.{Turned, newest}
pub use Rattle.cip_laws.specs.Outputs.{is_data, is_datum, PassedBy}
pub use Rattle.cip_routing.proofs.Found.{found_own}
use Rattle.cip_routing.specs.Resets.{held_ops, all_ended}

has_id : (id : ℕ) (own : Option ℕ) → is_id id own ≡ true → own ≡ Some id
has_id id None t = absurd (cc)
has_id id (Some k) t = ap (λ (i : ℕ). Some i) (eqb-true k id t)

up_way : (port : ℕ) (address : List ℕ) (up : HopUp) → up_is port address up ≡ true → (c : ℕ) × (up ≡ UpLink port address c)
up_way port address (UpLink p a c) t =
    let both = and_parts (eqb p port) (bytes_eq a address) t in
    let ports = eqb-true p port both.0 in
    let addresses : a ≡ address = (bytes_eq-Decides a address).0 both.1 in
    (c, λ i. UpLink (ports i) (addresses i) c)
up_way port address (UpLocal op) t = absurd (cc)

-- ---- data among the outputs

module _ (x : Output) (data_ : is_datum x ≡ true) where
  no_other : (y : Output) → is_datum y ≡ false → Has (y ∷ []) x → ⊥
  no_other y other (inl e) = let no : false ≡ true = sym other ∙ ap is_datum e ∙ data_ in cc
  no_other y other (inr h) = h

  reply_no : (v : UpSide) (b : List ℕ) → is_datum (reply_up v b) ≡ false
  reply_no (Link port address number) b = refl
  reply_no (Local op) b = refl

  told_no : (ops : List ℕ) → Has (all_ended ops) x → ⊥
  told_no [] h = h
  told_no (op ∷ ops) (inl e) = let no : false ≡ true = ap is_datum e ∙ data_ in cc
  told_no (op ∷ ops) (inr h) = told_no ops h

  reset_no : (b : Bool) (s : State) → Has (ended_by b s) x → ⊥
  reset_no true s h = told_no (held_ops s) h
  reset_no false s h = h

  replied_no : (p : Option entries.Entry) (b : List ℕ) → Has (replied p b) x → ⊥
  replied_no None b h = h
  replied_no (Some p) b h = no_other (reply_up p.up b) (reply_no p.up b) h

  expired_no : (p : Option entries.Entry) → Has (timed_out_reply p) x → ⊥
  expired_no None h = h
  expired_no (Some p) h = no_other (reply_up p.up (timed_out_bytes p.kind p.words)) (reply_no p.up (timed_out_bytes p.kind p.words)) h

  passes_it : (mid : State) (triad : Triad) (side : Side) (b : List ℕ) (o : Option Hop) → hop_at mid.hops triad ≡ o → Has (passed side o b) x
      → PassedBy mid (Passes triad side b) x
  passes_it mid triad side b None at h = absurd h
  passes_it mid triad side b (Some hop) at (inl e) = record { triad = triad; side = side; bytes = b; hop = hop; effect_is = refl; stands = at; is = e }
  passes_it mid triad side b (Some hop) at (inr h) = absurd h

  pub passed_by : (config : ModuleSettings) (mid : State) (e : Effect) → Has (output_of config mid e) x → PassedBy mid e x
  passed_by config mid (Passes triad side b) h = passes_it mid triad side b (hop_at mid.hops triad) refl h
  passed_by config mid (Replies v b) h = absurd (no_other (reply_up v b) (reply_no v b) h)
  passed_by config mid (Answers v asked) (inl e) = absurd (no_other (reply_up v (reply_bytes (here_answer config mid asked)))
      (reply_no v (reply_bytes (here_answer config mid asked))) (inl e))
  passed_by config mid (Answers v asked) (inr h) = absurd (reset_no (resets config mid asked) mid h)
  passed_by config mid (Forwards sending kind) h = absurd (no_other _ refl h)
  passed_by config mid (Begins sending o) h = absurd (no_other _ refl h)
  passed_by config mid (Finishes number triad came success) h =
      absurd (replied_no (map.get mid.pendings.entries number) (succeeded_at mid number triad came success) h)
  passed_by config mid (Takes number b) h = absurd (replied_no (map.get mid.pendings.entries number) b h)
  passed_by config mid (PendingTimesOut number) h = absurd (expired_no (map.get mid.pendings.entries number) h)
  passed_by config mid (HopTimesOut triad) h = absurd (no_other _ refl h)
  passed_by config mid (RefusesCommand fault) h = absurd (no_other _ refl h)
  passed_by config mid (Drops reason) h = absurd (no_other _ refl h)
  passed_by config mid e h = absurd h

-- ---- a datum of a frame, or one that is entered, is passed first

abbrev pub passes : Effect → ℕ
passes (Passes triad side bytes) = 1
passes e = 0

tails : (x y : Effect) (es fs : List Effect) → x ∷ es ≡ y ∷ fs → es ≡ fs
tails x y es fs e = cc

first_only : (before after : List Effect) (triad : Triad) (side : Side) (b : List ℕ) (x : Effect) (tail : List Effect)
    → before ++ (Passes triad side b ∷ after) ≡ x ∷ tail → gain passes tail ≡ 0 → before ≡ []
first_only [] after triad side b x tail e none = refl
first_only (y ∷ before) after triad side b x tail e none =
    let same = ap (gain passes) (tails y x (before ++ (Passes triad side b ∷ after)) tail e) in
    let sum = gain-append passes before (Passes triad side b ∷ after) in
    absurd (omega (arith, none, same, sum))

pub counts_none : (triad : Triad) (count : Option ℕ) → gain passes (counts triad count) ≡ 0
counts_none triad None = refl
counts_none triad (Some count) = omega arith

frame_first : (bytes : List ℕ) (row : DataRow) (before after : List Effect) (triad : Triad) (side : Side) (b : List ℕ)
    → before ++ (Passes triad side b ∷ after) ≡ datum_effects bytes row → before ≡ []
frame_first bytes datum.UnknownId before after triad side b e = first_only before after triad side b _ [] e refl
frame_first bytes datum.WrongSize before after triad side b e = first_only before after triad side b _ [] e refl
frame_first bytes (datum.PassedOn t s) before after triad side b e = first_only before after triad side b _ _ e (omega arith)
frame_first bytes (datum.Consumed t instance count written) before after triad side b e = let none =
    counts_none t count in first_only before after triad side b _ _ e (omega (arith, none))
frame_first bytes (datum.Repeated t) before after triad side b e = first_only before after triad side b _ _ e (omega arith)
frame_first bytes (datum.Arrived t) before after triad side b e = first_only before after triad side b _ _ e (omega arith)

none_first : (before after : List Effect) (e : Effect) → before ++ (e ∷ after) ≡ [] → before ≡ []
none_first [] after e h = refl
none_first (y ∷ before) after e h = absurd (cc)

refused_first : (row : CommandRow) (bytes : List ℕ) (hop : Option Hop) (before after : List Effect) (triad : Triad) (side : Side) (b : List ℕ)
    → before ++ (Passes triad side b ∷ after) ≡ refused_effects row (entered_effects bytes hop) → before ≡ []
refused_first command.OpUsed bytes hop before after triad side b e = first_only before after triad side b _ [] e refl
refused_first command.NotOpen bytes hop before after triad side b e = first_only before after triad side b _ [] e refl
refused_first command.ReservedService bytes hop before after triad side b e = first_only before after triad side b _ [] e refl
refused_first command.WrongSize bytes hop before after triad side b e = first_only before after triad side b _ [] e refl
refused_first command.NoInstance bytes hop before after triad side b e = first_only before after triad side b _ [] e refl
refused_first command.Taken bytes None before after triad side b e = none_first before after (Passes triad side b) e
refused_first command.Taken bytes (Some hop) before after triad side b e = first_only before after triad side b _ [] e refl

pub frame_alone : (config : ModuleSettings) (s : State) (event : Event) (es before after : List Effect) (triad : Triad) (side : Side) (b bytes from : List ℕ)
    (port id : ℕ) → event ≡ events.Frame port from (bodies.Data id bytes)
    → decide config s event ≡ Some es → before ++ (Passes triad side b ∷ after) ≡ es → before ≡ []
frame_alone config s event es before after triad side b bytes from port id event_is decided is =
    let whole : Some (datum_effects bytes (data_row config s port from id bytes)) ≡ Some es = sym (ap (decide config s) event_is) ∙ decided in
    let same : datum_effects bytes (data_row config s port from id bytes) ≡ es = cc in
    frame_first bytes (data_row config s port from id bytes) before after triad side b (is ∙ sym same)

pub enter_alone : (config : ModuleSettings) (s : State) (event : Event) (es before after : List Effect) (triad : Triad) (side : Side) (b bytes : List ℕ)
    (of : ℕ)
    → event ≡ events.Command (commands.Enter of bytes)
    → decide config s event ≡ Some es → before ++ (Passes triad side b ∷ after) ≡ es → before ≡ []
enter_alone config s event es before after triad side b bytes of event_is decided is =
    let whole : Some (enter_effects bytes (hop_by_op s.hops of)) ≡ Some es = sym (ap (decide config s) event_is) ∙ decided in
    let same : enter_effects bytes (hop_by_op s.hops of) ≡ es = cc in
    refused_first (enter_row bytes (hop_by_op s.hops of)) bytes (hop_by_op s.hops of) before after triad side b (is ∙ sym same)

-- ---- a datum that goes down

-- from where a datum goes down a connection: it was entered here, or came by the link above
pub data DownFrom (s : State) (event : Event) (hop : Hop) (bytes : List ℕ) : Type 0 where
  EnteredHere : (of : ℕ) → event ≡ events.Command (commands.Enter of bytes) → hop_by_op s.hops of ≡ Some hop → DownFrom s event hop bytes
  CameBy : (port id c : ℕ) (from : List ℕ) → event ≡ events.Frame port from (bodies.Data id bytes) → hop.ids.up ≡ Some id
      → hop.opening.up ≡ UpLink port from c
      → DownFrom s event hop bytes

pub record GoesDown (s : State) (event : Event) (x : Output) : Type 0 where
  pub hop : Hop
  pub bytes : List ℕ
  pub stands : hop_at s.hops hop.opening.triad ≡ Some hop
  pub is : datum_by Down hop bytes ≡ x
  pub source : DownFrom s event hop bytes

module _ (config : ModuleSettings) (turns : List Turn) (turn : Turn) (h : IsHistory config (turn ∷ turns)) where
  abbrev s0 : State
  s0 = state_after config turns

  abbrev pub now : Turned config s0 turn.event (state_after config (turn ∷ turns)) turn.outputs
  now = newest config turn turns h

  own : HasOwnTriads s0
  own = own_triads config turns h.0

  same_hop : (before : List Effect) (triad : Triad) (g hop : Hop) → before ≡ [] → hop_at (applied config s0 before).hops triad ≡ Some g
      → triad ≡ hop.opening.triad → hop_at s0.hops hop.opening.triad ≡ Some hop → g ≡ hop
  same_hop before triad g hop first at is stands =
      let both : Some g ≡ Some hop = sym at ∙ ap (λ (es : List Effect). hop_at (applied config s0 es).hops triad) first ∙ ap (hop_at s0.hops) is ∙ stands in
      cc

  pub down_by : (x : Output) (before after : List Effect) (triad : Triad) (b : List ℕ) (g : Hop) → before ++ (Passes triad Down b ∷ after) ≡ now.effects
      → PassesAs s0 turn.event triad Down b
      → hop_at (applied config s0 before).hops triad ≡ Some g → datum_by Down g b ≡ x → GoesDown s0 turn.event x
  down_by x before after triad b g place (PassedOn hop triad_is came) at is =
      let first = frame_alone config s0 turn.event now.effects before after triad Down b b came.from came.port came.id came.event_is now.decided place in
      let found = found_own (is_hop_by_up came.id came.port came.from) s0.hops hop came.found own in
      let same = same_hop before triad g hop first at triad_is found.0 in
      let both = and_parts (is_id came.id hop.ids.up) (up_is came.port came.from hop.opening.up) found.1 in
      let way = up_way came.port came.from hop.opening.up both.1 in
      record {
        hop = hop;
        bytes = b;
        stands = found.0;
        is = ap (λ (k : Hop). datum_by Down k b) (sym same) ∙ is;
        source =
            CameBy came.port came.id way.0 came.from came.event_is (has_id came.id hop.ids.up both.0) way.1;
      }
  down_by x before after triad b g place (Entered of hop triad_is side_is event_is found sized) at is =
      let first = enter_alone config s0 turn.event now.effects before after triad Down b b of event_is now.decided place in
      let there = found_own (λ k. is_id of (op_of k.opening.up)) s0.hops hop found own in
      let same = same_hop before triad g hop first at triad_is there.0 in
      record { hop = hop; bytes = b; stands = there.0; is = ap (λ (k : Hop). datum_by Down k b) (sym same) ∙ is; source = EnteredHere of event_is found }
  down_by x before after triad b g place (Made held hop triad_is side_is bytes_are made) at is = absurd (cc)
