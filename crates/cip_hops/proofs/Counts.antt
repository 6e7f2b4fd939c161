-- How many entries of a map pass a test, and how many names an index has.
use Rattle.std.proofs.Common.{◌≡◌, ℕ, ◌+◌, ◌≤◌, Bool, true, false, cond, List, [], ◌∷◌, refl, sym, ap, ◌∙◌, arith, Some, None}
use Rattle.std.specs.List.{count_by}
use Rattle.std.specs.Ordering.{eq_by_cmp, is_eq}
use Rattle.std.specs.declared.cmp.Ordering.{Ordering}
use Rattle.std.specs.declared.cmp.Ordering.TheVariants.{Less, Equal, Greater}
use Rattle.std.specs.Cmp.{IsTotalOrder, tied_itself}
use Rattle.std.specs.FinMap as map
use Rattle.std.specs.FinMap.{FinMap, IsAntisymmetric}
use Rattle.std.specs.FinMap.Entries.{find, put, by_order}
use Rattle.std.proofs.lemmas.List.Sums.{count_by-le-length, sum_by-cons}
use Rattle.cip_base.proofs.Lengths.{one_if}
use Rattle.cip_base.proofs.Views.{tied_name}

module _ {K X : Type 0} (R : K → K → Ordering) (p : X → Bool) where
  abbrev pub tally : FinMap R X → ℕ
  tally m = count_by (λ (e : K × X). p e.1) (map.entries m)

  abbrev counted_in : List (K × X) → ℕ
  counted_in es = count_by (λ (e : K × X). p e.1) es

  count-cons : (e : K × X) (es : List (K × X)) → counted_in (e ∷ es) ≡ one_if (p e.1) + counted_in es
  count-cons e es = sum_by-cons (λ (e : K × X). one_if (p e.1)) e es

  count-put : (k : K) (v : X) (es : List (K × X)) → find R k es ≡ None → counted_in (put R k v es) ≡ one_if (p v) + counted_in es
  count-put k v [] none = count-cons (k, v) []
  count-put k v (e ∷ es) none =
      elim (R k e.0) as (λ r. cond (is_eq r) (Some e.1) (find R k es) ≡ None
      → counted_in (by_order r ((k, v) ∷ e ∷ es) ((e.0, v) ∷ es) (e ∷ put R k v es)) ≡ one_if (p v) + counted_in (e ∷ es)) [
        | Less ↦ λ s. count-cons (k, v) (e ∷ es)
        | Equal ↦ λ s. absurd (cc)
        | Greater ↦ λ s. let rest = count-put k v es s in let more = count-cons e (put R k v es) in let old = count-cons e es in
            omega (arith, rest, more, old)
      ] none

  module _ (o : IsTotalOrder R) (same : IsAntisymmetric R) where
    pub tally-insert : (m : FinMap R X) (k : K) (v : X) → map.get m k ≡ None → tally (map.insert m k v) ≡ one_if (p v) + tally m
    tally-insert m k v none = ap counted_in (map.entries-insert o m k v) ∙ count-put k v (map.entries m) (sym (map.get-entries m k) ∙ none)

    gone : (m : FinMap R X) (k : K) → map.get (map.remove m k) k ≡ None
    gone m k = map.get-remove o m k k ∙ ap (λ r. cond (is_eq r) None (map.get m k)) (tied_itself o k)

    back : (m : FinMap R X) (k : K) (v : X) → map.get m k ≡ Some v → map.insert (map.remove m k) k v ≡ m
    back m k v is = map.same_map o same _ _ (λ q. map.get-insert o (map.remove m k) k v q ∙ ap (cond (eq_by_cmp R q k) (Some v)) (map.get-remove o m k q)
        ∙ elim (eq_by_cmp R q k) as (λ b. eq_by_cmp R q k ≡ b → cond b (Some v) (cond b None (map.get m q)) ≡ map.get m q) [
          | true ↦ λ t. sym is ∙ ap (map.get m) (sym (tied_name same q k t))
          | false ↦ λ t. refl
        ] refl)

    over : (m : FinMap R X) (k : K) (v : X) → map.insert (map.remove m k) k v ≡ map.insert m k v
    over m k v = map.same_map o same _ _ (λ q. map.get-insert o (map.remove m k) k v q ∙ ap (cond (eq_by_cmp R q k) (Some v)) (map.get-remove o m k q)
        ∙ elim (eq_by_cmp R q k) as (λ b. cond b (Some v) (cond b None (map.get m q)) ≡ cond b (Some v) (map.get m q)) [ true ↦ refl | false ↦ refl ]
        ∙ sym (map.get-insert o m k v q))

    pub tally-remove : (m : FinMap R X) (k : K) (v : X) → map.get m k ≡ Some v → one_if (p v) + tally (map.remove m k) ≡ tally m
    tally-remove m k v is = sym (tally-insert (map.remove m k) k v (gone m k)) ∙ ap tally (back m k v is)

    pub tally-change : (m : FinMap R X) (k : K) (v w : X) → map.get m k ≡ Some v → p w ≡ p v → tally (map.insert m k w) ≡ tally m
    tally-change m k v w is alike =
        ap tally (sym (over m k w)) ∙ tally-insert (map.remove m k) k w (gone m k) ∙ ap (λ b. one_if b + tally (map.remove m k)) alike
        ∙ tally-remove m k v is

  pub tally-le : (m : FinMap R X) → tally m ≤ map.len m
  tally-le m = let short = count_by-le-length (λ (e : K × X). p e.1) (map.entries m) in let len = map.len-entries m in omega (arith, short, len)
