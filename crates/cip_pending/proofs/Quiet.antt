-- Before the time that is kept no request is due.
use Rattle.std.proofs.Common.{◌≡◌, ℕ, ◌<◌, ◌≤◌, Bool, true, false, cond, List, [], ◌∷◌, refl, sym, ap, ◌∙◌, arith, Option, Some, None, nat_le, ◌||◌}
use Rattle.std.specs.List.{list_any}
use Rattle.std.specs.Option.{option_and_then, option_map_or}
use Rattle.std.specs.Ordering.{nat_cmp, eq_by_cmp}
use Rattle.std.specs.Cmp.{nat_cmp_total}
use Rattle.std.specs.FinMap as map
use Rattle.std.specs.FinMap.{nat_cmp-IsAntisymmetric}
use Rattle.std.specs.FinMap.Entries as entries
use Rattle.std.proofs.lemmas.Bool.Decides.{nat_tests}
use Rattle.slab.specs.Slab.{get}
use Rattle.cip_base.specs.Joined.{joined, passes, put_before}
use Rattle.cip_base.proofs.Views.{entries-view, find-nowhere, tied_name, some_or}
use Rattle.cip_pending.specs.declared.entry.Entry.{Entry}
use Rattle.cip_pending.specs.declared.table.PendingTable.TheInside.{Inside}
use Rattle.cip_pending.specs.Pendings.{is_due, due}
use Rattle.cip_pending.specs.Kept.{IsKept, pendings}
use Rattle.cip_clock.specs.Bounds.{bound_of, IsFirstBound}
use Rattle.cip_clock.specs.declared.deadlines.TheConstants.{LAST_BOUND}
use Rattle.cip_pending.specs.Quiet.{deadline_of}
use Rattle.cip_pending.proofs.Steps.{found_is}
use Rattle.cip_pending.proofs.Ticks.{none_due}

later : (deadline now : ℕ) → now < deadline → nat_le deadline now ≡ false
later deadline now lt = grind (arith, nat_tests)

-- where no record is due, none is
pub nothing_due : (t : Inside) → IsKept t → (now : ℕ) → ((key : ℕ) (x : Entry) → get t.records key ≡ Some x → now < x.deadline)
    → due now (pendings t) ≡ []
nothing_due t h now quiet =
    let none = find-nowhere nat_cmp nat_cmp_total nat_cmp-IsAntisymmetric (pendings t).entries (is_due now) (λ q x e.
    some_or (map.get t.order.keys q) (nat_le x.deadline now ≡ false)
    (λ no. let never : None ≡ Some x = sym (found_is t h q ∙ ap (option_and_then (get t.records)) no) ∙ e in absurd (cc))
    (λ key at. later x.deadline now (quiet key x (sym (found_is t h q ∙ ap (option_and_then (get t.records)) at) ∙ e)))) in
    (none_due now (map.entries (pendings t).entries) none).0

any_put : (p : ℕ × Entry → Bool) (q : ℕ) (o : Option Entry) (rest : List (ℕ × Entry))
    → list_any p (put_before q o rest) ≡ (option_map_or (λ x. p (q, x)) o false || list_any p rest)
any_put p q None rest = refl
any_put p q (Some x) rest = refl

-- whether any passes, by the index and the records
any_joined : (p : ℕ × Entry → Bool) (ps : List (ℕ × ℕ)) (found : ℕ → Option Entry)
    → list_any p (joined ps found) ≡ list_any (passes p found) ps
any_joined p [] found = refl
any_joined p (q ∷ ps) found =
    any_put p q.0 (found q.1) (joined ps found) ∙ ap (λ b. passes p found q || b) (any_joined p ps found)

pub any_waiting : (t : Inside) (p : ℕ × Entry → Bool)
    → list_any (passes p (get t.records)) (map.entries t.order.keys) ≡ list_any p (map.entries (pendings t).entries)
any_waiting t p =
    sym (ap (list_any p) (entries-view nat_cmp nat_cmp_total nat_cmp-IsAntisymmetric t.order.keys (get t.records))
    ∙ any_joined p (map.entries t.order.keys) (get t.records))

either_one : (a b : Bool) → b ≡ true → (a || b) ≡ true
either_one true b e = refl
either_one false b e = e

-- what stands under a number and passes is one of them
any_one : (p : ℕ × Entry → Bool) (q : ℕ) (x : Entry) (es : List (ℕ × Entry)) → entries.find nat_cmp q es ≡ Some x
    → p (q, x) ≡ true → list_any p es ≡ true
any_one p q x [] found pass = absurd (cc)
any_one p q x (e ∷ es) found pass =
    elim (eq_by_cmp nat_cmp q e.0) as (λ b. eq_by_cmp nat_cmp q e.0 ≡ b → cond b (Some e.1) (entries.find nat_cmp q es) ≡ Some x
    → list_any p (e ∷ es) ≡ true) [
      | true ↦ λ t s. let name : e.0 ≡ q = sym (tied_name nat_cmp-IsAntisymmetric q e.0 t) in let value : e.1 ≡ x = cc in
          ap (λ b. b || list_any p es) (ap p (λ i. (name i, value i)) ∙ pass)
      | false ↦ λ t s. either_one (p e) (list_any p es) (any_one p q x es s pass)
    ] refl found

due_then : (deadline first time : ℕ) → deadline ≡ first → first ≤ time → nat_le deadline time ≡ true
due_then deadline first time same reached = grind (arith, nat_tests)

reached : (first time : ℕ) → nat_le first time ≡ true → first ≤ time
reached first time e = grind (arith, nat_tests)

unreached : (first time : ℕ) → nat_le first time ≡ false → time < first
unreached first time e = grind (arith, nat_tests)

none_joined : (p : ℕ × Entry → Bool) (found : ℕ → Option Entry) (ps : List (ℕ × ℕ)) → ((q : ℕ × ℕ) → passes p found q ≡ false)
    → list_any (passes p found) ps ≡ false
none_joined p found [] none = refl
none_joined p found (q ∷ ps) none = ap (λ b. b || list_any (passes p found) ps) (none q) ∙ none_joined p found ps none

-- ---- the first bound, where it is less than the last

module _ (t : Inside) (h : IsKept t) (first : ℕ) (is : IsFirstBound deadline_of (get t.records) first) where
  -- the request whose bound it is
  its_own : first < LAST_BOUND → (x : Entry) × (get t.records is.key ≡ Some x) × (x.deadline ≡ first)
  its_own some =
      elim (get t.records is.key) as (λ (o : Option Entry). get t.records is.key ≡ o → bound_of (option_and_then deadline_of o) ≡ first
      → (x : Entry) × (get t.records is.key ≡ Some x) × (x.deadline ≡ first)) [
        | None ↦ λ at reached. absurd (omega arith)
        | Some x ↦ λ at reached. (x, at, omega arith)
      ] refl is.reached

  none_before : (time : ℕ) → time < first → time < LAST_BOUND → list_any (is_due time) (map.entries (pendings t).entries) ≡ false
  none_before time early low =
      sym (any_waiting t (is_due time))
      ∙ none_joined (is_due time) (get t.records) (map.entries t.order.keys) (λ q.
      elim (get t.records q.1) as (λ (o : Option Entry). get t.records q.1 ≡ o → option_map_or (λ x. is_due time (q.0, x)) o false ≡ false) [
        | None ↦ λ at. refl
        | Some x ↦ λ at. let least = is.least q.1 x at in later x.deadline time (omega (arith, least))
      ] refl)

  one_due : first < LAST_BOUND → (time : ℕ) → first ≤ time → list_any (is_due time) (map.entries (pendings t).entries) ≡ true
  one_due some time reached =
      let own = its_own some in
      let n = h.numbered is.key own.0 own.1 in
      let stands = found_is t h n.0 ∙ ap (option_and_then (get t.records)) n.1 ∙ own.1 in
      any_one (is_due time) n.0 own.0 (map.entries (pendings t).entries)
      (sym (map.get-entries (pendings t).entries n.0) ∙ stands) (due_then own.0.deadline first time own.2 reached)

  pub first_is : first < LAST_BOUND → (time : ℕ) → nat_le first time ≡ list_any (is_due time) (map.entries (pendings t).entries)
  first_is some time =
      elim (nat_le first time) as (λ b. nat_le first time ≡ b → b ≡ list_any (is_due time) (map.entries (pendings t).entries)) [
        | true ↦ λ e. sym (one_due some time (reached first time e))
        | false ↦ λ e. sym (none_before time (unreached first time e) (omega (arith, unreached first time e)))
      ] refl

  pub none_is : LAST_BOUND < first → (time : ℕ) → false ≡ list_any (is_due time) (map.entries (pendings t).entries)
  none_is never time =
      sym (sym (any_waiting t (is_due time))
      ∙ none_joined (is_due time) (get t.records) (map.entries t.order.keys) (λ q.
      elim (get t.records q.1) as (λ (o : Option Entry). get t.records q.1 ≡ o → option_map_or (λ x. is_due time (q.0, x)) o false ≡ false) [
        | None ↦ λ at. refl
        | Some x ↦ λ at. let least = is.least q.1 x at in absurd (omega (arith, least))
      ] refl))
