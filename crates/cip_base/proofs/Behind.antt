-- What is put in behind those that are gone from the front of a list, and what is taken out there.
use Rattle.std.proofs.Common.{◌≡◌, ℕ, zero, suc, ◌+◌, ◌≤◌, List, [], ◌∷◌, length, drop, refl, ap, arith, ◌∙◌}
use Rattle.std.specs.List.{insert, remove}

insert_at : {T : Type 0} (xs : List T) (gone at i : ℕ) (x : T) → i ≡ gone + at → gone ≤ length xs → drop gone (insert xs i x) ≡ insert (drop gone xs) at x
insert_at xs zero at i x is le = let same : i ≡ at = omega (arith, is) in ap (λ n. insert xs n x) same
insert_at [] (suc gone) at i x is le = absurd (omega (arith, le))
insert_at (y ∷ ys) (suc gone) at zero x is le = absurd (omega (arith, is))
insert_at (y ∷ ys) (suc gone) at (suc i) x is le = insert_at ys gone at i x (omega (arith, is)) (omega (arith, le))

pub insert_behind : {T : Type 0} (xs : List T) (gone at : ℕ) (x : T) → gone ≤ length xs → drop gone (insert xs (gone + at) x) ≡ insert (drop gone xs) at x
insert_behind xs gone at x le = insert_at xs gone at (gone + at) x refl le

remove_at : {T : Type 0} (xs : List T) (gone at i : ℕ) → i ≡ gone + at → gone ≤ length xs → drop gone (remove xs i) ≡ remove (drop gone xs) at
remove_at xs zero at i is le = let same : i ≡ at = omega (arith, is) in ap (λ n. remove xs n) same
remove_at [] (suc gone) at i is le = absurd (omega (arith, le))
remove_at (y ∷ ys) (suc gone) at zero is le = absurd (omega (arith, is))
remove_at (y ∷ ys) (suc gone) at (suc i) is le = remove_at ys gone at i (omega (arith, is)) (omega (arith, le))

pub remove_behind : {T : Type 0} (xs : List T) (gone at : ℕ) → gone ≤ length xs → drop gone (remove xs (gone + at)) ≡ remove (drop gone xs) at
remove_behind xs gone at le = remove_at xs gone at (gone + at) refl le

first_gone : {T : Type 0} (xs : List T) (gone : ℕ) → drop (suc gone) xs ≡ remove (drop gone xs) 0
first_gone [] zero = refl
first_gone [] (suc gone) = refl
first_gone (y ∷ ys) zero = refl
first_gone (y ∷ ys) (suc gone) = first_gone ys gone

pub first_goes : {T : Type 0} (xs : List T) (gone : ℕ) → drop (gone + 1) xs ≡ remove (drop gone xs) 0
first_goes xs gone = let next : gone + 1 ≡ suc gone = omega arith in ap (λ n. drop n xs) next ∙ first_gone xs gone
