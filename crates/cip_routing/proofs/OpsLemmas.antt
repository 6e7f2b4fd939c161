-- Ops are found and put in at the place that a binary search tells.
use Rattle.std.proofs.Common.{◌≡◌, ℕ, zero, suc, ◌<◌, ◌≤◌, Bool, true, false, cond, eqb, ◌||◌, List, [], ◌∷◌, length, get_or, refl, sym, ap, ◌∙◌, arith, inl}
use Rattle.std.proofs.Common.{inr, Result, Ok, Err}
use Rattle.std.specs.Prelude.{is_ok, insert}
use Rattle.std.specs.List.{list_any}
use Rattle.std.proofs.lemmas.List.{get_or_default}
use Rattle.std.proofs.lemmas.Bool.{eq-eqb, ne_eqb, lt-ltb, le-ltb, cases_lt}
use Rattle.std.proofs.lemmas.List.Sorted.{IsNonDecreasingBy-insert, IsNonDecreasingBy-from_default}
use Rattle.cip_routing.specs.State.{is_spent, spent_with}
use Rattle.cip_routing.specs.Rising.{IsRising, IsPlace}

or_true : (b : Bool) → (b || true) ≡ true
or_true true = refl
or_true false = refl

pub spent_at : (op : ℕ) (xs : List ℕ) (i : ℕ) → i < length xs → get_or xs i 0 ≡ op → is_spent op xs ≡ true
spent_at op [] i lt e = absurd (omega arith)
spent_at op (x ∷ xs) zero lt e = ap (λ b. b || list_any (λ s. eqb s op) xs) (eq-eqb x op e)
spent_at op (x ∷ xs) (suc i) lt e = ap (λ b. eqb x op || b) (spent_at op xs i (omega arith) e) ∙ or_true (eqb x op)

pub spent_nowhere : (op : ℕ) (xs : List ℕ) → ((k : ℕ) → k < length xs → get_or xs k 0 ≡ op → ⊥) → is_spent op xs ≡ false
spent_nowhere op [] differs = refl
spent_nowhere op (x ∷ xs) differs =
    ap (λ b. b || list_any (λ s. eqb s op) xs) (ne_eqb x op (differs 0 (omega arith))) ∙ spent_nowhere op xs (λ k lt e. differs (suc k) (omega arith) e)

-- what a binary search answers is whether the op was used
pub found_is : (op : ℕ) (xs : List ℕ) (r : Result ℕ ℕ)
    → IsPlace op xs r → is_ok r ≡ is_spent op xs
found_is op xs (Ok i) (lt, e) = sym (spent_at op xs i lt e)
found_is op xs (Err i) (le, low, high) = sym (spent_nowhere op xs (λ k lt e.
    elim (cases_lt k i) as (λ _. ⊥) [ inl below ↦ (let h = low k below in omega arith) | inr above ↦ (let h = high k above lt in omega arith) ]))

-- an op goes in between those below and those above
pub insert_is : (op : ℕ) (xs : List ℕ) (i : ℕ) → i ≤ length xs → ((k : ℕ) → k < i → get_or xs k 0 < op) → ((k : ℕ) → i ≤ k → k < length xs → op < get_or xs k 0)
    → insert xs i op ≡ spent_with op xs
insert_is op [] zero le low high = refl
insert_is op [] (suc i) le low high = absurd (omega arith)
insert_is op (x ∷ xs) zero le low high = rw (lt-ltb op x (high 0 (omega arith) (omega arith))) refl
insert_is op (x ∷ xs) (suc i) le low high =
    rw (le-ltb op x (let h = low 0 (omega arith) in omega arith))
    (ap (λ (z : List ℕ). x ∷ z) (insert_is op xs i (omega arith) (λ k lt. low (suc k) (omega arith))
    (λ k least most. high (suc k) (omega arith) (omega arith))))

-- and the ops still rise
pub rising_insert : (op : ℕ) (xs : List ℕ) (i : ℕ) → IsRising xs → i ≤ length xs → ((k : ℕ) → k < i → get_or xs k 0 < op)
    → ((k : ℕ) → i ≤ k → k < length xs → op < get_or xs k 0) → IsRising (insert xs i op)
rising_insert op xs i rising le low high =
    λ a b ab lt. IsNonDecreasingBy-insert (λ n. n) xs i op (IsNonDecreasingBy-from_default (λ n. n) xs 0 rising) le
    (λ k d lt. let h = low k lt in rw (get_or_default xs k d 0 (omega arith)) (omega arith))
    (λ k d least most. let h = high k least most in rw (get_or_default xs k d 0 most) (omega arith)) a b 0 ab lt

pub either_rising : (b : Bool) (xs ys : List ℕ) → IsRising xs → IsRising ys → IsRising (cond b xs ys)
either_rising true xs ys h k = h
either_rising false xs ys h k = k
