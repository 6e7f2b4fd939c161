-- The last of a list is the first of it reversed.
use Rattle.std.proofs.Common.{◌≡◌, ℕ, zero, suc, List, [], ◌∷◌, ◌++◌, length, reverse, Some, take, sym, ap, ◌∙◌, arith}
use Rattle.std.specs.Prelude.{slice_get}
use Rattle.std.proofs.lemmas.List.{reverse-append}

first_goes_last : {A : Type 0} (y : A) (ys : List A) → reverse (y ∷ ys) ≡ reverse ys ++ y ∷ []
first_goes_last y ys = reverse-append (y ∷ []) ys

pub last_first : {A : Type 0} (xs : List A) (n : ℕ) (x : A) → length xs ≡ suc n → slice_get xs n ≡ Some x → reverse xs ≡ x ∷ reverse (take n xs)
last_first [] n x l e = absurd (omega (arith, l))
last_first (y ∷ []) zero x l e = let same : y ≡ x = cc in ap (λ z. z ∷ []) same
last_first (y ∷ z ∷ zs) zero x l e = absurd (omega (arith, l))
last_first (y ∷ ys) (suc n) x l e =
    first_goes_last y ys ∙ ap (λ zs. zs ++ y ∷ []) (last_first ys n x (omega (arith, l)) e) ∙ ap (λ zs. x ∷ zs) (sym (first_goes_last y (take n ys)))
