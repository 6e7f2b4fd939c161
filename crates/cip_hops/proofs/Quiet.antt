-- Before the time that is kept no connection is due, also after a change.
use Rattle.std.proofs.Common.{◌≡◌, ℕ, ◌<◌, ◌≤◌, Bool, true, false, cond, List, [], ◌∷◌, refl, sym, ap, ◌∙◌, arith, Option, Some, None, nat_le, min, ◌||◌}
use Rattle.std.specs.List.{list_any, filter_map}
use Rattle.std.specs.Option.{option_and_then, option_map_or}
use Rattle.std.specs.Ordering.{eq_by_cmp}
use Rattle.std.specs.FinMap as map
use Rattle.std.specs.FinMap.Entries as entries
use Rattle.std.proofs.lemmas.Bool.Decides.{nat_tests}
use Rattle.slab.specs.Slab.{get}
use Rattle.cip_base.specs.Triads.{triad_cmp}
use Rattle.cip_base.specs.declared.triad.Triad.{Triad}
use Rattle.cip_base.specs.Joined.{joined, passes, put_before}
use Rattle.cip_base.proofs.Going.{none_passes}
use Rattle.cip_base.proofs.Triads.{triads_total}
use Rattle.cip_base.proofs.Views.{entries-view, find-nowhere, tied_name}
use Rattle.cip_hops.specs.declared.hop.Held.{Held}
use Rattle.cip_hops.specs.declared.hop.Held.TheVariants.{Opening as IsOpening, Open}
use Rattle.cip_hops.specs.declared.table.HopTable.TheInside.{Inside}
use Rattle.cip_hops.specs.Hops.{as_hop, is_past, is_hop_due, is_entry_due, due, triad_of}
use Rattle.cip_hops.specs.Kept.{hops, IsKept}
use Rattle.cip_hops.specs.Quiet.{earlier, deadline_of}
use Rattle.cip_clock.specs.Bounds.{bound_of, IsFirstBound}
use Rattle.cip_clock.specs.declared.deadlines.TheConstants.{LAST_BOUND}
use Rattle.cip_hops.proofs.Steps.{triads_apart, stands, under}

-- ---- a record

or_false : (a : Bool) → a ≡ (a || false)
or_false true = refl
or_false false = refl

past_of_min : (a b time : ℕ) → nat_le (min a b) time ≡ (nat_le a time || nat_le b time)
past_of_min a b time = grind (arith, nat_tests)

past_of_both : (a b : Option ℕ) (time : ℕ) → is_past time (earlier a b) ≡ (is_past time a || is_past time b)
past_of_both None b time = refl
past_of_both (Some a) None time = or_false (nat_le a time)
past_of_both (Some a) (Some b) time = past_of_min a b time

due_is : (x : Held) (time : ℕ) → is_hop_due time x ≡ is_past time (deadline_of x)
due_is (IsOpening o ids) time = refl
due_is (Open hop) time = sym (past_of_both hop.up_deadline hop.down_deadline time)

not_yet : (deadline : Option ℕ) (time : ℕ) → time < bound_of deadline → is_past time deadline ≡ false
not_yet None time lt = refl
not_yet (Some first) time lt = grind (arith, nat_tests)

-- before its bound it is not due
pub early : (x : Held) (time : ℕ) → time < bound_of (deadline_of x) → is_hop_due time x ≡ false
early x time lt = due_is x time ∙ not_yet (deadline_of x) time lt

-- ---- all that are held

-- where no record is due, none is
pub none_due : (t : Inside) → IsKept t → (now : ℕ) → ((key : ℕ) (x : Held) → get t.records key ≡ Some x → is_hop_due now x ≡ false)
    → due now (hops t) ≡ []
none_due t h now quiet =
    let none = find-nowhere triad_cmp triads_total triads_apart (hops t).held (is_entry_due now) (λ q x e. let s = stands t h q x e in
    quiet s.key x s.found) in
    ap (filter_map (λ (e : Triad × Held). as_hop e.1)) (none_passes (is_entry_due now) (map.entries (hops t).held) none).0

any_put : (p : Triad × Held → Bool) (q : Triad) (o : Option Held) (rest : List (Triad × Held))
    → list_any p (put_before q o rest) ≡ (option_map_or (λ x. p (q, x)) o false || list_any p rest)
any_put p q None rest = refl
any_put p q (Some x) rest = refl

-- whether any passes, by the index and the records
any_joined : (p : Triad × Held → Bool) (ps : List (Triad × ℕ)) (found : ℕ → Option Held)
    → list_any p (joined ps found) ≡ list_any (passes p found) ps
any_joined p [] found = refl
any_joined p (q ∷ ps) found =
    any_put p q.0 (found q.1) (joined ps found) ∙ ap (λ b. passes p found q || b) (any_joined p ps found)

pub any_held : (t : Inside) (p : Triad × Held → Bool)
    → list_any (passes p (get t.records)) (map.entries t.triads.keys) ≡ list_any p (map.entries (hops t).held)
any_held t p =
    sym (ap (list_any p) (entries-view triad_cmp triads_total triads_apart t.triads.keys (get t.records))
    ∙ any_joined p (map.entries t.triads.keys) (get t.records))

first_false : (a b : Bool) → (a || b) ≡ false → a ≡ false
first_false true b e = e
first_false false b e = refl

second_false : (a b : Bool) → (a || b) ≡ false → b ≡ false
second_false true b e = absurd (cc)
second_false false b e = e

-- where none passes, what stands under a triad does not
not_any : (p : Triad × Held → Bool) (q : Triad) (x : Held) (es : List (Triad × Held)) → entries.find triad_cmp q es ≡ Some x
    → list_any p es ≡ false → p (q, x) ≡ false
not_any p q x [] found none = absurd (cc)
not_any p q x (e ∷ es) found none =
    elim (eq_by_cmp triad_cmp q e.0) as (λ b. eq_by_cmp triad_cmp q e.0 ≡ b → cond b (Some e.1) (entries.find triad_cmp q es) ≡ Some x
    → p (q, x) ≡ false) [
      | true ↦ λ t s. let name : e.0 ≡ q = sym (tied_name triads_apart q e.0 t) in let value : e.1 ≡ x = cc in
          ap p (λ i. (sym name i, sym value i)) ∙ first_false (p e) (list_any p es) none
      | false ↦ λ t s. not_any p q x es s (second_false (p e) (list_any p es) none)
    ] refl found

none_joined : (p : Triad × Held → Bool) (found : ℕ → Option Held) (ps : List (Triad × ℕ)) → ((q : Triad × ℕ) → passes p found q ≡ false)
    → list_any (passes p found) ps ≡ false
none_joined p found [] none = refl
none_joined p found (q ∷ ps) none = ap (λ b. b || list_any (passes p found) ps) (none q) ∙ none_joined p found ps none

-- ---- the first bound, where it is less than the last

reached : (first time : ℕ) → nat_le first time ≡ true → first ≤ time
reached first time e = grind (arith, nat_tests)

unreached : (first time : ℕ) → nat_le first time ≡ false → time < first
unreached first time e = grind (arith, nat_tests)

-- a deadline whose bound is less than the last
told : (deadline : Option ℕ) (first : ℕ) → bound_of deadline ≡ first → first < LAST_BOUND → (time : ℕ) → first ≤ time → is_past time deadline ≡ true
told None first is some time past = absurd (omega arith)
told (Some deadline) first is some time past = grind (arith, nat_tests)

-- a bound past the last is that of none
untold : (deadline : Option ℕ) (first : ℕ) → first ≤ bound_of deadline → LAST_BOUND < first → (time : ℕ) → is_past time deadline ≡ false
untold None first le never time = refl
untold (Some deadline) first le never time = absurd (omega arith)

module _ (t : Inside) (h : IsKept t) (first : ℕ) (is : IsFirstBound deadline_of (get t.records) first) where
  -- the connection whose bound it is
  its_own : first < LAST_BOUND → (x : Held) × (get t.records is.key ≡ Some x) × (bound_of (deadline_of x) ≡ first)
  its_own some =
      elim (get t.records is.key) as (λ (o : Option Held). get t.records is.key ≡ o → bound_of (option_and_then deadline_of o) ≡ first
      → (x : Held) × (get t.records is.key ≡ Some x) × (bound_of (deadline_of x) ≡ first)) [
        | None ↦ λ at found. absurd (omega arith)
        | Some x ↦ λ at found. (x, at, found)
      ] refl is.reached

  none_where : (time : ℕ) → ((key : ℕ) (x : Held) → get t.records key ≡ Some x → is_hop_due time x ≡ false)
      → list_any (is_entry_due time) (map.entries (hops t).held) ≡ false
  none_where time none =
      sym (any_held t (is_entry_due time))
      ∙ none_joined (is_entry_due time) (get t.records) (map.entries t.triads.keys) (λ q.
      elim (get t.records q.1) as (λ (o : Option Held). get t.records q.1 ≡ o → option_map_or (λ x. is_entry_due time (q.0, x)) o false ≡ false) [
        | None ↦ λ at. refl
        | Some x ↦ λ at. none q.1 x at
      ] refl)

  one_due : first < LAST_BOUND → (time : ℕ) → first ≤ time → list_any (is_entry_due time) (map.entries (hops t).held) ≡ true
  one_due some time past =
      let own = its_own some in
      let x = own.0 in
      let due_now : is_hop_due time x ≡ true = due_is x time ∙ told (deadline_of x) first own.2 some time past in
      elim (list_any (is_entry_due time) (map.entries (hops t).held)) as (λ b. list_any (is_entry_due time) (map.entries (hops t).held) ≡ b → b ≡ true) [
        | true ↦ λ e. refl
        | false ↦ λ e.
            let not_due : is_hop_due time x ≡ false = not_any (is_entry_due time) (triad_of x) x (map.entries (hops t).held)
            (sym (map.get-entries (hops t).held (triad_of x)) ∙ under t h is.key x own.1) e in
            let never : true ≡ false = sym due_now ∙ not_due in absurd (cc)
      ] refl

  pub first_is : first < LAST_BOUND → (time : ℕ) → nat_le first time ≡ list_any (is_entry_due time) (map.entries (hops t).held)
  first_is some time =
      elim (nat_le first time) as (λ b. nat_le first time ≡ b → b ≡ list_any (is_entry_due time) (map.entries (hops t).held)) [
        | true ↦ λ e. sym (one_due some time (reached first time e))
        | false ↦ λ e. sym (none_where time (λ key x found. let least = is.least key x found in let low = unreached first time e in
            early x time (omega (arith, least, low))))
      ] refl

  pub none_is : LAST_BOUND < first → (time : ℕ) → false ≡ list_any (is_entry_due time) (map.entries (hops t).held)
  none_is never time =
      sym (none_where time (λ key x found. due_is x time ∙ untold (deadline_of x) first (is.least key x found) never time))
