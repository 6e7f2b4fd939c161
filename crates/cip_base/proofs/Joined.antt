-- What each change of the index and of the records is in the list that they make together.
use Rattle.std.proofs.Common.{◌≡◌, ℕ, zero, suc, ◌<◌, Bool, true, false, cond, T, List, [], ◌∷◌, length, get_or, refl, ap, ◌∙◌, arith, Option, Some, None}
use Rattle.std.proofs.Common.{IsSome}
use Rattle.std.specs.List.{find}
use Rattle.std.specs.Option.{option_map, option_map_or}
use Rattle.std.specs.Ordering.{is_lt}
use Rattle.std.specs.declared.cmp.Ordering.{Ordering}
use Rattle.std.specs.FinMap.Entries.{below_all, is_sorted}
use Rattle.cip_base.proofs.Sorted.{both, first, second}
use Rattle.cip_base.specs.Joined.{put_before, joined, IsPresent, passes}

-- which default does not matter within the list
pub same_at : {X : Type 0} (xs : List X) (i : ℕ) (c d : X) → i < length xs → get_or xs i c ≡ get_or xs i d
same_at [] i c d lt = absurd (omega arith)
same_at (x ∷ xs) zero c d lt = refl
same_at (x ∷ xs) (suc i) c d lt = same_at xs i c d (omega arith)

module _ {K X : Type 0} where
  rest_present : (p : K × ℕ) (ps : List (K × ℕ)) (found : ℕ → Option X) → IsPresent (p ∷ ps) found → IsPresent ps found
  rest_present p ps found h k d lt = h (suc k) d (omega arith)

  one_more : (k : K) (o : Option X) (rest : List (K × X)) → IsSome o → length (put_before k o rest) ≡ suc (length rest)
  one_more k None rest h = absurd (cc)
  one_more k (Some x) rest h = refl

  pub length_joined : (ps : List (K × ℕ)) (found : ℕ → Option X) → IsPresent ps found → length (joined ps found) ≡ length ps
  length_joined [] found h = refl
  length_joined (p ∷ ps) found h = one_more p.0 (found p.1) _ (h 0 p (omega arith)) ∙ ap (λ n. suc n) (length_joined ps found (rest_present p ps found h))

  -- the first joined entry that passes a test, from the first of the index whose record passes
  find_put : (p : K × X → Bool) (k : K) (o : Option X) (rest : List (K × X))
      → find p (put_before k o rest) ≡ cond (option_map_or (λ x. p (k, x)) o false) (option_map (λ x. (k, x)) o) (find p rest)
  find_put p k None rest = refl
  find_put p k (Some x) rest = refl

  pub joined_none : (p : K × X → Bool) (ps : List (K × ℕ)) (found : ℕ → Option X) → find (passes p found) ps ≡ None → find p (joined ps found) ≡ None
  joined_none p [] found e = refl
  joined_none p (q ∷ ps) found e =
      find_put p q.0 (found q.1) (joined ps found)
      ∙ elim (passes p found q) as (λ b. cond b (Some q) (find (passes p found) ps) ≡ None
      → cond b (option_map (λ x. (q.0, x)) (found q.1)) (find p (joined ps found)) ≡ None) [
        | true ↦ λ s. absurd (cc)
        | false ↦ λ s. joined_none p ps found s
      ] e

  pub joined_first : (p : K × X → Bool) (ps : List (K × ℕ)) (found : ℕ → Option X) (q : K × ℕ) (x : X) → find (passes p found) ps ≡ Some q
      → found q.1 ≡ Some x → find p (joined ps found) ≡ Some (q.0, x)
  joined_first p [] found q x e is = absurd (cc)
  joined_first p (r ∷ ps) found q x e is =
      find_put p r.0 (found r.1) (joined ps found)
      ∙ elim (passes p found r) as (λ b. cond b (Some r) (find (passes p found) ps) ≡ Some q
      → cond b (option_map (λ x. (r.0, x)) (found r.1)) (find p (joined ps found)) ≡ Some (q.0, x)) [
        | true ↦ λ s. let same : r ≡ q = cc in ap (λ (t : K × ℕ). option_map (λ (y : X). (t.0, y)) (found t.1)) same
            ∙ ap (option_map (λ (y : X). (q.0, y))) is
        | false ↦ λ s. joined_first p ps found q x s is
      ] e

module _ {K X : Type 0} (R : K → K → Ordering) where
  below_put : (q k : K) (o : Option X) (rest : List (K × X)) → T (is_lt (R q k)) → T (below_all R q rest) → T (below_all R q (put_before k o rest))
  below_put q k None rest h r = r
  below_put q k (Some x) rest h r = both _ _ h r

  below_joined : (q : K) (ps : List (K × ℕ)) (found : ℕ → Option X) → T (below_all R q ps) → T (below_all R q (joined ps found))
  below_joined q [] found h = tt
  below_joined q (p ∷ ps) found h = below_put q p.0 (found p.1) _ (first _ _ h) (below_joined q ps found (second _ _ h))

  sorted_put : (k : K) (o : Option X) (rest : List (K × X)) → T (below_all R k rest) → T (is_sorted R rest) → T (is_sorted R (put_before k o rest))
  sorted_put k None rest b r = r
  sorted_put k (Some x) rest b r = both _ _ b r

  pub sorted_joined : (ps : List (K × ℕ)) (found : ℕ → Option X) → T (is_sorted R ps) → T (is_sorted R (joined ps found))
  sorted_joined [] found h = tt
  sorted_joined (p ∷ ps) found h = sorted_put p.0 (found p.1) _ (below_joined p.0 ps found (first _ _ h)) (sorted_joined ps found (second _ _ h))
