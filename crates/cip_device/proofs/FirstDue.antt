-- What a tick does before the first deadline, and what at it.
use Rattle.std.proofs.Common.{◌≡◌, ◌≢◌, ℕ, ◌+◌, ◌*◌, ◌^◌, ◌<◌, ◌≤◌, Bool, true, false, ◌||◌, List, [], ◌∷◌, ◌++◌, map, nat_lt, if◌then◌else◌, refl, sym, ap}
use Rattle.std.proofs.Common.{◌∙◌, IfSome, arith, Option, Some, None}
use Rattle.std.specs.List.{filter, filter_map, cons_option, list_any}
use Rattle.std.specs.Option.{option_map_or}
use Rattle.std.specs.FinMap as finite
use Rattle.std.proofs.lemmas.Bool.{le-leb, lt-leb, le-ltb}
use Rattle.cip_pending.specs.Pendings.{is_due, due}
use Rattle.cip_base.specs.declared.triad.Triad.{Triad}
use Rattle.cip_hops.specs.declared.hop.Hop.{Hop}
use Rattle.cip_hops.specs.declared.hop.Held.{Held}
use Rattle.cip_hops.specs.declared.hop.Held.TheVariants.{Opening as IsOpening, Open}
use Rattle.cip_hops.specs.Hops.{is_past, is_timed_out, is_entry_due, as_hop}
use Rattle.cip_hops.specs.Hops as hops
use Rattle.cip_config.specs.declared.config.ModuleSettings.{ModuleSettings}
use Rattle.cip_event.specs.declared.event.Event.TheVariants as events
use Rattle.cip_routing.specs.Deadlines.{is_any_due as is_due_at}
use Rattle.cip_steps.specs.Code.Ticks.{shown, hop_timed_out}
use Rattle.cip_routing.specs.Effects.{Effect, Advances, applied, outputs_of}
use Rattle.cip_routing.specs.State.{State}
use Rattle.cip_routing.specs.Table.{Stepped, table_step, after_effects, tick_effects, pending_times_out, hop_times_out, hop_time_outs}
use Rattle.cip_routing.specs.Views.{row_of, hop_row_of}
use Rattle.cip_steps.proofs.TimeOuts.{ticked}
use Rattle.cip_routing.proofs.Walks.{due_open, opens}
use Rattle.cip_device.specs.Deadlines.{is_given_up, is_silent, is_any_due, IsStill, IsSoonest, Waits}
use Rattle.cip_device.specs.Rows.{pendings_of, connections_of}
use Rattle.cip_device.specs.Shown.{Shown}

-- ---- lists

none_left : {X : Type 0} (p : X → Bool) (xs : List X) → list_any p xs ≡ false → filter p xs ≡ []
none_left p [] e = refl
none_left p (x ∷ xs) e =
    elim (p x) as (λ b. (b || list_any p xs) ≡ false → (if b then x ∷ filter p xs else filter p xs) ≡ []) [
      | true ↦ λ s. absurd (cc)
      | false ↦ λ s. none_left p xs s
    ] e

none_passes : {X : Type 0} (p : X → Bool) (xs : List X) → filter p xs ≡ [] → list_any p xs ≡ false
none_passes p [] e = refl
none_passes p (x ∷ xs) e =
    elim (p x) as (λ b. (if b then x ∷ filter p xs else filter p xs) ≡ [] → (b || list_any p xs) ≡ false) [
      | true ↦ λ s. absurd (cc)
      | false ↦ λ s. none_passes p xs s
    ] e

any_mapped : {X Y : Type 0} (p : Y → Bool) (f : X → Y) (xs : List X) → list_any p (map f xs) ≡ list_any (λ x. p (f x)) xs
any_mapped p f [] = refl
any_mapped p f (x ∷ xs) = ap (λ b. p (f x) || b) (any_mapped p f xs)

both_empty : {X Y Z : Type 0} (f : X → Z) (g : Y → Z) (xs : List X) (ys : List Y) → map f xs ++ map g ys ≡ [] → (xs ≡ []) × (ys ≡ [])
both_empty f g [] [] e = (refl, refl)
both_empty f g [] (y ∷ ys) e = absurd (cc)
both_empty f g (x ∷ xs) ys e = absurd (cc)

neither : (a b : Bool) → (a || b) ≡ false → (a ≡ false) × (b ≡ false)
neither true b e = absurd (cc)
neither false b e = (refl, e)

both_false : (a b : Bool) → a ≡ false → b ≡ false → (a || b) ≡ false
both_false a b first second = ap (λ c. c || b) first ∙ second

either_head : (p : Hop → Bool) (x : Held) (xs : List Hop) → (option_map_or p (as_hop x) false || list_any p xs) ≡ list_any p (cons_option (as_hop x) xs)
either_head p (IsOpening o ids) xs = refl
either_head p (Open hop) xs = refl

-- what is due of all that is held, and of what is open
open_due : (time : ℕ) (es : List (Triad × Held)) → list_any (is_entry_due time) es ≡ list_any (is_timed_out time) (filter_map (λ e. as_hop e.1) es)
open_due time [] = refl
open_due time (e ∷ es) = ap (λ b. is_entry_due time e || b) (open_due time es) ∙ either_head (is_timed_out time) e.1 (filter_map (λ f. as_hop f.1) es)

-- ---- a tick

-- where nothing is due at a time, nothing is found due
module _ (s : State) (time : ℕ) where
  abbrev any_due : Bool
  any_due = is_any_due time (pendings_of s) (connections_of s)

  pendings_due : list_any (is_given_up time) (pendings_of s) ≡ list_any (is_due time) (finite.entries s.pendings.entries)
  pendings_due = any_mapped (is_given_up time) row_of (finite.entries s.pendings.entries)

  connections_due : list_any (is_silent time) (connections_of s) ≡ list_any (is_timed_out time) (opens s.hops)
  connections_due = any_mapped (is_silent time) hop_row_of (opens s.hops)

  -- the same by the tables as they stand
  pub rows_due : is_due_at time s ≡ any_due
  rows_due =
      ap (λ b. b || list_any (is_entry_due time) (finite.entries s.hops.held)) (sym pendings_due)
      ∙ ap (λ b. list_any (is_given_up time) (pendings_of s) || b) (open_due time (finite.entries s.hops.held) ∙ sym connections_due)

  none_due : any_due ≡ false → (due time s.pendings ≡ []) × (hops.due time s.hops ≡ [])
  none_due e =
      let both = neither (list_any (is_given_up time) (pendings_of s)) (list_any (is_silent time) (connections_of s)) e in (
        none_left (is_due time) (finite.entries s.pendings.entries) (sym pendings_due ∙ both.0),
        due_open time s.hops ∙ none_left (is_timed_out time) (opens s.hops) (sym connections_due ∙ both.1),
      )

  due_none : due time s.pendings ≡ [] → hops.due time s.hops ≡ [] → any_due ≡ false
  due_none first second =
      both_false (list_any (is_given_up time) (pendings_of s)) (list_any (is_silent time) (connections_of s))
      (pendings_due ∙ none_passes (is_due time) (finite.entries s.pendings.entries) first)
      (connections_due ∙ none_passes (is_timed_out time) (opens s.hops) (sym (due_open time s.hops) ∙ second))

module _ (config : ModuleSettings) (s : State) (ms : ℕ) where
  abbrev then_at : ℕ
  then_at = s.now + 1000 * ms

  abbrev stepped : Stepped
  stepped = record { state = applied config s (tick_effects s (1000 * ms)); outputs = outputs_of config s (tick_effects s (1000 * ms)) }

  -- what the table answers, by whether the clock has room
  by_room : (P : Stepped → Type 0) → P stepped → IfSome (table_step config s (events.Tick ms)) P
  by_room P holds =
      elim (nat_lt then_at (2 ^ 63)) as (λ b. IfSome (after_effects config s (if b then Some (tick_effects s (1000 * ms)) else None)) P) [
        | true ↦ holds
        | false ↦ tt
      ]

  effects_none : due then_at s.pendings ≡ [] → hops.due then_at s.hops ≡ [] → tick_effects s (1000 * ms) ≡ Advances (1000 * ms) ∷ []
  effects_none first second =
      ap (λ ds. Advances (1000 * ms) ∷ (map pending_times_out ds ++ hop_time_outs then_at s.hops)) first
      ∙ ap (λ hs. Advances (1000 * ms) ∷ map hop_times_out hs) second

  outputs_are : outputs_of config s (tick_effects s (1000 * ms)) ≡ map shown (due then_at s.pendings) ++ map hop_timed_out (hops.due then_at s.hops)
  outputs_are = (ticked config s _ (1000 * ms) then_at _ refl refl refl).out

  pub still : any_due s then_at ≡ false
      → IfSome (table_step config s (events.Tick ms)) (λ after. after ≡ record { state = record s { now = s.now + 1000 * ms }; outputs = [] })
  still e =
      let none = none_due s then_at e in
      by_room (λ after. after ≡ record { state = record s { now = s.now + 1000 * ms }; outputs = [] })
      (ap (λ (es : List Effect). record { state = applied config s es; outputs = outputs_of config s es }) (effects_none none.0 none.1))

  pub happens : any_due s then_at ≡ true → IfSome (table_step config s (events.Tick ms)) (λ after. after.outputs ≢ [])
  happens e =
      by_room (λ after. after.outputs ≢ []) (λ none.
      let both = both_empty shown hop_timed_out (due then_at s.pendings) (hops.due then_at s.hops) (sym outputs_are ∙ none) in
      let never : true ≡ false = sym e ∙ due_none s then_at both.0 both.1 in cc)

  -- past the clock's end there is no step
  pub ended : 2 ^ 63 ≤ then_at → table_step config s (events.Tick ms) ≡ None
  ended past = ap (λ b. after_effects config s (if b then Some (tick_effects s (1000 * ms)) else None)) (le-ltb then_at (2 ^ 63) past)

-- ---- the first deadline

-- the first time at which something is due, and the time that it is
pub record IsFirst (s : Shown) (now : ℕ) (first : Option ℕ) : Type 0 where
  pub time_is : now ≡ s.state.now
  pub due : (time : ℕ) → is_past time first ≡ is_due_at time s.state

module _ (s : Shown) (now : ℕ) (first : Option ℕ) (h : IsFirst s now first) where
  due_at : (time : ℕ) → is_past time first ≡ any_due s.state time
  due_at time = h.due time ∙ rows_due s.state time

  pub at_rest : first ≡ None → (ms : ℕ) → IsStill s ms
  at_rest none ms = still s.config s.state ms (sym (due_at (s.state.now + 1000 * ms)) ∙ ap (is_past (s.state.now + 1000 * ms)) none)

  pub nothing_waits : first ≡ None → Waits s → ⊥
  nothing_waits none waits =
      let never : true ≡ false = sym waits.1 ∙ sym (h.due waits.0) ∙ ap (is_past waits.0) none in cc

  pub something_waits : (deadline : ℕ) → first ≡ Some deadline → Waits s
  something_waits deadline is = (deadline, sym (h.due deadline) ∙ ap (is_past deadline) is ∙ le-leb deadline deadline (omega arith))

  pub soonest : (deadline ms : ℕ) → first ≡ Some deadline → 0 < ms → deadline ≤ now + 1000 * ms
      → ((shorter : ℕ) → 0 < shorter → shorter < ms → now + 1000 * shorter < deadline) → IsSoonest s ms
  soonest deadline ms is some past least =
      let at : (k : ℕ) → is_past (s.state.now + 1000 * k) first ≡ is_past (now + 1000 * k) (Some deadline) = λ k.
      ap (λ t. is_past (t + 1000 * k) first) (sym h.time_is) ∙ ap (is_past (now + 1000 * k)) is in
      record {
        some = some;
        due = sym (h.due (s.state.now + 1000 * ms)) ∙ at ms ∙ le-leb deadline (now + 1000 * ms) past;
        not_yet = λ k positive below. sym (h.due (s.state.now + 1000 * k)) ∙ at k ∙ lt-leb deadline (now + 1000 * k) (least k positive below);
        before = λ k positive below. still s.config s.state k
            (sym (due_at (s.state.now + 1000 * k)) ∙ at k ∙ lt-leb deadline (now + 1000 * k) (least k positive below));
        then_ = happens s.config s.state ms (sym (due_at (s.state.now + 1000 * ms)) ∙ at ms ∙ le-leb deadline (now + 1000 * ms) past);
        past_the_end = ended s.config s.state ms;
      }
