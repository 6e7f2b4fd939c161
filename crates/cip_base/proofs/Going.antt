-- The first entry that passes a test goes: those that pass lose their first, and the others stay.
use Rattle.std.proofs.Common.{◌≡◌, ℕ, zero, suc, ◌<◌, Bool, true, false, cond, not, List, [], ◌∷◌, length, get_or, refl, sym, ap, ◌∙◌, arith, Some, None}
use Rattle.std.specs.List.{find, filter, remove}
use Rattle.std.specs.declared.cmp.Ordering.{Ordering}
use Rattle.std.specs.Cmp.{IsTotalOrder}
use Rattle.std.specs.FinMap as map
use Rattle.std.specs.FinMap.{FinMap, IsAntisymmetric}
use Rattle.cip_base.proofs.Sorted.{from_sorted-remove, sorted_remove}

pub record FirstGoes {X : Type 0} (p : X → Bool) (es : List X) (x : X) : Type 0 where
  pub place : ℕ
  pub within : place < length es
  pub stands : get_or es place x ≡ x
  pub chosen : filter p es ≡ x ∷ filter p (remove es place)
  pub others : filter (λ e. not (p e)) es ≡ filter (λ e. not (p e)) (remove es place)

pub first_goes : {X : Type 0} (p : X → Bool) (es : List X) (x : X) → find p es ≡ Some x → FirstGoes p es x
first_goes p [] x e = absurd (cc)
first_goes p (y ∷ es) x e =
    elim (p y) as (λ b. p y ≡ b → cond b (Some y) (find p es) ≡ Some x → FirstGoes p (y ∷ es) x) [
      | true ↦ λ t s. let same : y ≡ x = cc in record {
        place = 0;
        within = omega arith;
        stands = same;
        chosen = ap (λ b. cond b (y ∷ filter p es) (filter p es)) t ∙ ap (λ z. z ∷ filter p es) same;
        others = ap (λ b. cond (not b) (y ∷ filter (λ e. not (p e)) es) (filter (λ e. not (p e)) es)) t;
      }
      | false ↦ λ t s. let h = first_goes p es x s in record {
        place = suc h.place;
        within = omega (arith, h.within);
        stands = h.stands;
        chosen = ap (λ b. cond b (y ∷ filter p es) (filter p es)) t ∙ h.chosen
            ∙ sym (ap (λ b. x ∷ cond b (y ∷ filter p (remove es h.place)) (filter p (remove es h.place))) t);
        others = ap (λ b. cond (not b) (y ∷ filter (λ e. not (p e)) es) (filter (λ e. not (p e)) es)) t ∙ ap (λ z. y ∷ z) h.others
            ∙ sym (ap (λ b. cond (not b) (y ∷ filter (λ e. not (p e)) (remove es h.place)) (filter (λ e. not (p e)) (remove es h.place))) t);
      }
    ] refl e

pub shorter : {X : Type 0} (es : List X) (i : ℕ) → i < length es → length (remove es i) < length es
shorter [] i lt = absurd (omega arith)
shorter (e ∷ es) zero lt = omega arith
shorter (e ∷ es) (suc i) lt = let h = shorter es i (omega arith) in omega (arith, h)

-- where none passes
pub none_passes : {X : Type 0} (p : X → Bool) (es : List X) → find p es ≡ None
    → (filter p es ≡ []) × (filter (λ e. not (p e)) es ≡ es)
none_passes p [] e = (refl, refl)
none_passes p (y ∷ es) e =
    elim (p y) as (λ b. cond b (Some y) (find p es) ≡ None
    → (cond b (y ∷ filter p es) (filter p es) ≡ [])
    × (cond (not b) (y ∷ filter (λ e. not (p e)) es) (filter (λ e. not (p e)) es) ≡ y ∷ es)) [
      | true ↦ λ s. absurd (cc)
      | false ↦ λ s. let h = none_passes p es s in (h.0, ap (λ z. y ∷ z) h.1)
    ] e

module _ {K X : Type 0} (R : K → K → Ordering) (o : IsTotalOrder R) (same : IsAntisymmetric R) where
  pub entries-remove : (m : FinMap R X) (i : ℕ) (d : K × X) → i < length (map.entries m)
      → map.entries (map.remove m (get_or (map.entries m) i d).0) ≡ remove (map.entries m) i
  entries-remove m i d lt =
      let es = map.entries m in
      let sorted = map.entries_sorted m in
      let back : map.from_sorted {R = R} es ≡ m = map.same_entries_map _ _ (map.entries-from_sorted R es sorted) in
      ap map.entries (ap (λ m. map.remove m (get_or es i d).0) (sym back) ∙ sym (from_sorted-remove R o same es i d sorted lt))
      ∙ map.entries-from_sorted R _ (sorted_remove R o es i d sorted lt)

  -- the first entry that passes goes: those that pass lose their first, and the others stay
  pub goes : (m : FinMap R X) (p : K × X → Bool) (q : K) (x : X) → find p (map.entries m) ≡ Some (q, x)
      → (filter p (map.entries m) ≡ (q, x) ∷ filter p (map.entries (map.remove m q)))
      × (filter (λ e. not (p e)) (map.entries m) ≡ filter (λ e. not (p e)) (map.entries (map.remove m q)))
  goes m p q x e =
      let h = first_goes p (map.entries m) (q, x) e in
      let left : map.entries (map.remove m q) ≡ remove (map.entries m) h.place = ap (λ (y : K × X). map.entries (map.remove m y.0)) (sym h.stands)
      ∙ entries-remove m h.place (q, x) h.within in
      (h.chosen ∙ ap (λ fs. (q, x) ∷ filter p fs) (sym left), h.others ∙ ap (filter (λ e. not (p e))) (sym left))
