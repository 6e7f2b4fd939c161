-- Where a binary search by name ends in a list whose names strictly rise.
use Rattle.std.proofs.Common.{◌≡◌, ℕ, zero, suc, ◌+◌, ◌-◌, Some, ◌<◌, ◌≤◌, Bool, true, false, T, List, [], ◌∷◌, length, get_or, refl, sym, ap, ◌∙◌, arith}
use Rattle.std.proofs.Common.{Result, Ok, Err, MatchResult, not, ◌⊎◌, inl, inr}
use Rattle.std.specs.List.Sorted.{IsSearchInRange, IsBinarySearchResult, IsNonDecreasingBy, IsPartitionedBy, IsPartitionPoint}
use Rattle.std.specs.Ordering.{ordering_index, is_lt, is_ge, ordering_reverse}
use Rattle.std.specs.declared.cmp.Ordering.{Ordering}
use Rattle.std.specs.declared.cmp.Ordering.TheVariants.{Less, Equal, Greater}
use Rattle.std.specs.Cmp.{IsTotalOrder}
use Rattle.std.specs.FinMap.{IsAntisymmetric}
use Rattle.std.specs.FinMap.Entries.{is_sorted}
use Rattle.std.proofs.lemmas.List.Sorted.{searchable_from_sorted}
use Rattle.std.specs.List.{slice_get}
use Rattle.std.proofs.lemmas.Option.{slice_get_within, get_or_from_slice_get}
use Rattle.cip_base.proofs.Sorted.{first, second, below-at}
use Rattle.cip_base.specs.Rising.{StandsAt, FitsAt}

pub below_or_same : (a b : ℕ) → a ≤ b → (a < b) ⊎ (a ≡ b)
below_or_same zero zero le = inr refl
below_or_same zero (suc b) le = inl (omega arith)
below_or_same (suc a) zero le = absurd (omega arith)
below_or_same (suc a) (suc b) le = elim (below_or_same a b (omega arith)) [ inl below ↦ inl (omega arith) | inr same ↦ inr (ap (λ n. suc n) same) ]

module _ {K X : Type 0} {R : K → K → Ordering} (o : IsTotalOrder R) where
  pub rises : (es : List (K × X)) → T (is_sorted R es) → (i j : ℕ) (d : K × X) → i < j → j < length es → R (get_or es i d).0 (get_or es j d).0 ≡ Less
  rises [] h i j d a b = absurd (omega arith)
  rises (e ∷ es) h zero zero d a b = absurd (omega arith)
  rises (e ∷ es) h zero (suc j) d a b = below-at R e.0 es j d (first _ _ h) (omega arith)
  rises (e ∷ es) h (suc i) zero d a b = absurd (omega arith)
  rises (e ∷ es) h (suc i) (suc j) d a b = rises es (second _ _ h) i j d (omega arith) (omega arith)

  pub search_premise : (es : List (K × X)) (name : K) → T (is_sorted R es) → IsNonDecreasingBy (λ y. ordering_index (R y.0 name)) es
  search_premise es name h =
      searchable_from_sorted o (λ (y : K × X). y.0) es name
      (λ k d a b. ap is_lt (o.antisymm _ _ ∙ ap ordering_reverse (rises es h k (k + 1) d (omega arith) b)))

-- a binary search finds the place of the name, or the one where it would stand
pub searched : {K : Type 0} {R : K → K → Ordering} → IsTotalOrder R → IsAntisymmetric R → (es : List (K × ℕ)) (name : K) (r : Result ℕ ℕ)
    → T (is_sorted R es)
    → IsSearchInRange r (length es) → IsBinarySearchResult (λ y. R y.0 name) es r → MatchResult r (StandsAt es name) (FitsAt R es name)
searched o same es name (Ok i) h bound at = record { within = bound; key = λ d. same _ _ (at d) }
searched o same es name (Err i) h bound parted =
    let parts = parted (search_premise o es name h) in
    record {
      within = bound;
      low = λ k d lt. o.antisymm name _ ∙ ap ordering_reverse (parts.0 k d (omega arith) lt);
      high = λ d lt. o.antisymm name _ ∙ ap ordering_reverse (parts.1 i d (omega arith) lt);
    }

-- above the last, a name would stand at the end
pub past_last : {K : Type 0} {R : K → K → Ordering} → IsTotalOrder R → (es : List (K × ℕ)) (name : K) (last : K × ℕ) → T (is_sorted R es)
    → slice_get es (length es - 1) ≡ Some last → R last.0 name ≡ Less → FitsAt R es name (length es)
past_last {R = R} o es name last h at less =
    let bound = slice_get_within es _ last at in
    let below : (k : ℕ) (d : _) → k < length es → R (get_or es k d).0 name ≡ Less =
    λ k d lt. let end = ap (λ e. R e.0 name) (get_or_from_slice_get es _ last d at) ∙ less in elim (below_or_same k (length es - 1) (omega arith)) [
      | inl before ↦ o.trans _ _ _ (rises o es h k (length es - 1) d before bound) end
      | inr same ↦ ap (λ n. R (get_or es n d).0 name) same ∙ end
    ] in
    record {
      within = omega arith;
      low = λ k d lt. o.antisymm name _ ∙ ap ordering_reverse (below k d lt);
      high = λ d lt. absurd (omega arith);
    }

no_less : {K : Type 0} {R : K → K → Ordering} → IsTotalOrder R → (n a b : K) (r s : Ordering) → R n a ≡ r → R n b ≡ s → R a b ≡ Less → is_ge s ≡ true
    → is_ge r ≡ true
no_less {R = R} o n a b Less s e f less ge = let far : s ≡ Less = sym f ∙ o.trans n a b e less in absurd (cc)
no_less o n a b Equal s e f less ge = refl
no_less o n a b Greater s e f less ge = refl

not_above : (r : Ordering) (b : Bool) → is_ge r ≡ b → is_lt r ≡ not b
not_above Less b e = ap not e
not_above Equal b e = ap not e
not_above Greater b e = ap not e

-- a binary search finds where the names above begin
pub parted_after : {K X : Type 0} {R : K → K → Ordering} → IsTotalOrder R → (es : List (K × X)) (last : K) (i : ℕ) → T (is_sorted R es)
    → (IsPartitionedBy (λ e. is_ge (R last e.0)) es → IsPartitionPoint (λ e. is_ge (R last e.0) ≡ true) (λ e. is_ge (R last e.0) ≡ false) es i)
    → IsPartitionPoint (λ e. is_lt (R last e.0) ≡ false) (λ e. is_lt (R last e.0) ≡ true) es i
parted_after {R = R} o es last i h parts =
    let ps = parts (λ a b d le lt pass. elim (below_or_same a b le) [
      | inl below ↦ no_less o last _ _ _ _ refl refl (rises o es h a b d below lt) pass
      | inr same ↦ ap (λ k. is_ge (R last (get_or es k d).0)) same ∙ pass
    ]) in
    (λ k d low lt. not_above _ true (ps.0 k d low lt), λ k d low lt. not_above _ false (ps.1 k d low lt))
