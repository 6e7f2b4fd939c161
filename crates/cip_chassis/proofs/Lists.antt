-- One more element at the end of a list: what stands at a place, what differs, what passes.
use Rattle.std.proofs.Common.{◌≡◌, ℕ, zero, suc, Bool, true, false, not, ◌&&◌, ◌||◌, List, [], ◌∷◌, ◌++◌, length, Some, refl, sym, ap, ◌∙◌, eqb, ◌⊎◌, inl, inr}
use Rattle.std.specs.Prelude.{slice_get}
use Rattle.std.specs.List.{list_all, list_any}
use Rattle.std.proofs.lemmas.Bool.{and_parts, and_from, eqb-true, eq-eqb, cases_Bool}
use Rattle.cip_chassis.specs.Plan.{TellsApart}
use Rattle.cip_chassis.proofs.Ports.{some_same, any_at}

pub or_parts : (a b : Bool) → (a || b) ≡ false → (a ≡ false) × (b ≡ false)
or_parts true b h = cc
or_parts false b h = (refl, h)

pub not_true : (b : Bool) → not b ≡ true → b ≡ false
not_true true h = sym h
not_true false h = refl

pub other_way : (a b : ℕ) → eqb a b ≡ false → eqb b a ≡ false
other_way a b h = elim (cases_Bool (eqb b a)) [
  | inl t ↦ let back : eqb a b ≡ true = eq-eqb a b (sym (eqb-true b a t)) in let no : true ≡ false = sym back ∙ h in absurd (cc)
  | inr f ↦ f
]

module _ {X : Type 0} where
  -- what stands at a place stood there before, or is the new one
  pub get_push : (xs : List X) (x a : X) (i : ℕ) → slice_get (xs ++ x ∷ []) i ≡ Some a → (slice_get xs i ≡ Some a) ⊎ ((i ≡ length xs) × (x ≡ a))
  get_push [] x a zero e = inr (refl, some_same x a e)
  get_push [] x a (suc i) e = absurd (cc)
  get_push (y ∷ ys) x a zero e = inl e
  get_push (y ∷ ys) x a (suc i) e = elim (get_push ys x a i e) [ inl old ↦ inl old | inr new ↦ inr (ap suc new.0, new.1) ]

  pub get_last : (xs : List X) (x : X) → slice_get (xs ++ x ∷ []) (length xs) ≡ Some x
  get_last [] x = refl
  get_last (y ∷ ys) x = get_last ys x

  pub none_at : (f : X → Bool) (xs : List X) → list_any f xs ≡ false → (i : ℕ) (a : X) → slice_get xs i ≡ Some a → f a ≡ true → ⊥
  none_at f xs none i a at t = let no : true ≡ false = sym (any_at f xs i a at t) ∙ none in cc

  pub apart_push : {K : Type 0} (of : X → K) (xs : List X) (x : X) → TellsApart of xs → ((i : ℕ) (a : X) → slice_get xs i ≡ Some a → of a ≡ of x → ⊥)
      → TellsApart of (xs ++ x ∷ [])
  apart_push of xs x apart new i j a b at bt e = by_both (get_push xs x a i at) (get_push xs x b j bt)
    where
      by_both : (slice_get xs i ≡ Some a) ⊎ ((i ≡ length xs) × (x ≡ a)) → (slice_get xs j ≡ Some b) ⊎ ((j ≡ length xs) × (x ≡ b)) → i ≡ j
      by_both (inl p) (inl q) = apart i j a b p q e
      by_both (inl p) (inr q) = absurd (new i a p (e ∙ ap of (sym q.1)))
      by_both (inr p) (inl q) = absurd (new j b q (sym e ∙ ap of (sym p.1)))
      by_both (inr p) (inr q) = p.0 ∙ sym q.0

  pub apart_none : {K : Type 0} (of : X → K) → TellsApart of []
  apart_none of i j a b at bt e = absurd (cc)

  pub all_push : (f : X → Bool) (xs : List X) (x : X) → list_all f xs ≡ true → f x ≡ true → list_all f (xs ++ x ∷ []) ≡ true
  all_push f [] x h t = and_from (f x) true t refl
  all_push f (y ∷ ys) x h t = let both = and_parts (f y) (list_all f ys) h in and_from (f y) (list_all f (ys ++ x ∷ [])) both.0 (all_push f ys x both.1 t)

  any_push : (f : X → Bool) (xs : List X) (x : X) → list_any f xs ≡ false → f x ≡ false → list_any f (xs ++ x ∷ []) ≡ false
  any_push f [] x h t = ap (λ b. b || false) t
  any_push f (y ∷ ys) x h t = let both = or_parts (f y) (list_any f ys) h in ap (λ b. b || list_any f (ys ++ x ∷ [])) both.0 ∙ any_push f ys x both.1 t

  -- no two have one number
  abbrev pub differ : (X → ℕ) → List X → Bool
  differ n [] = true
  differ n (x ∷ xs) = not (list_any (λ y. eqb (n y) (n x)) xs) && differ n xs

  pub differ_push : (n : X → ℕ) (xs : List X) (x : X) → differ n xs ≡ true → list_any (λ y. eqb (n y) (n x)) xs ≡ false → differ n (xs ++ x ∷ []) ≡ true
  differ_push n [] x h none = refl
  differ_push n (y ∷ ys) x h none =
      let both = and_parts (not (list_any (λ z. eqb (n z) (n y)) ys)) (differ n ys) h in
      let new = or_parts (eqb (n y) (n x)) (list_any (λ z. eqb (n z) (n x)) ys) none in
      let here = any_push (λ z. eqb (n z) (n y)) ys x (not_true (list_any (λ z. eqb (n z) (n y)) ys) both.0) (other_way (n y) (n x) new.0) in
      and_from (not (list_any (λ z. eqb (n z) (n y)) (ys ++ x ∷ []))) (differ n (ys ++ x ∷ [])) (ap not here) (differ_push n ys x both.1 new.1)
