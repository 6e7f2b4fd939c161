-- What stands in a list before a place, and what differs from all that stands before it.
use Rattle.std.proofs.Common.{◌≡◌, ℕ, zero, suc, Bool, true, false, not, ◌&&◌, ◌||◌, List, [], ◌∷◌, ◌++◌, length, Option, Some, None, refl, sym, ap, ◌∙◌, eqb}
use Rattle.std.specs.Prelude.{slice_get}
use Rattle.std.specs.List.{list_any}
use Rattle.std.proofs.lemmas.Bool.{and_parts}
use Rattle.cip_chassis.specs.Plan.{TellsApart}
use Rattle.cip_chassis.proofs.Lists.{differ, not_true, other_way}
use Rattle.cip_chassis.proofs.Ports.{any_at, some_same}

module _ {X : Type 0} where
  pub get_before : (xs ys : List X) (i : ℕ) (a : X) → slice_get xs i ≡ Some a → slice_get (xs ++ ys) i ≡ Some a
  get_before [] ys i a e = absurd (cc)
  get_before (x ∷ xs) ys zero a e = e
  get_before (x ∷ xs) ys (suc i) a e = get_before xs ys i a e

  pub get_here : (xs ys : List X) (x : X) → slice_get (xs ++ x ∷ ys) (length xs) ≡ Some x
  get_here [] ys x = refl
  get_here (y ∷ xs) ys x = get_here xs ys x

  pub none_here : (xs : List X) → slice_get xs (length xs) ≡ None
  none_here [] = refl
  none_here (x ∷ xs) = none_here xs

  -- one that passes
  pub record Passing (f : X → Bool) (xs : List X) : Type 0 where
    pub place : ℕ
    pub one : X
    pub at : slice_get xs place ≡ Some one
    pub passes : f one ≡ true

  pub passing : (f : X → Bool) (xs : List X) → list_any f xs ≡ true → Passing f xs
  passing f [] h = absurd (cc)
  passing f (x ∷ xs) h =
      elim (f x) as (λ b. f x ≡ b → (b || list_any f xs) ≡ true → Passing f (x ∷ xs)) [
        | true ↦ λ t s. record { place = 0; one = x; at = refl; passes = t }
        | false ↦ λ t s. let p = passing f xs s in record { place = suc p.place; one = p.one; at = p.at; passes = p.passes }
      ] refl h

  -- where none can pass, none does
  pub none_passes : (f : X → Bool) (xs : List X) → (Passing f xs → ⊥) → list_any f xs ≡ false
  none_passes f xs never =
      elim (list_any f xs) as (λ b. list_any f xs ≡ b → b ≡ false) [
        | true ↦ λ t. absurd (never (passing f xs t))
        | false ↦ λ t. refl
      ] refl

  -- those before it differ from it
  pub apart_before : {K : Type 0} (of : X → K) (f : X → Bool) (xs ys : List X) (x : X) → TellsApart of (xs ++ x ∷ ys)
      → ((a : X) → f a ≡ true → of a ≡ of x) → list_any f xs ≡ false
  apart_before of f xs ys x apart same = none_passes f xs (λ p.
      let here : p.place ≡ length xs = apart p.place (length xs) p.one x (get_before xs (x ∷ ys) p.place p.one p.at) (get_here xs ys x)
      (same p.one p.passes) in
      let no : Some p.one ≡ None = sym p.at ∙ ap (slice_get xs) here ∙ none_here xs in cc)

  -- those before it have other numbers
  pub differ_before : (n : X → ℕ) (xs ys : List X) (x : X) → differ n (xs ++ x ∷ ys) ≡ true → list_any (λ y. eqb (n y) (n x)) xs ≡ false
  differ_before n [] ys x h = refl
  differ_before n (y ∷ xs) ys x h =
      let both = and_parts (not (list_any (λ z. eqb (n z) (n y)) (xs ++ x ∷ ys))) (differ n (xs ++ x ∷ ys)) h in
      let none = not_true (list_any (λ z. eqb (n z) (n y)) (xs ++ x ∷ ys)) both.0 in
      let here : eqb (n x) (n y) ≡ false =
      elim (eqb (n x) (n y)) as (λ b. eqb (n x) (n y) ≡ b → b ≡ false) [
        | true ↦ λ t.
            let no : true ≡ false = sym (any_at (λ z. eqb (n z) (n y)) (xs ++ x ∷ ys) (length xs) x (get_here xs ys x) t) ∙ none in absurd (cc)
        | false ↦ λ t. refl
      ] refl in
      ap (λ b. b || list_any (λ z. eqb (n z) (n x)) xs) (other_way (n x) (n y) here) ∙ differ_before n xs ys x both.1
