-- The texts of numbers, some digits at a time, and the table that holds them.
use Rattle.std.proofs.Common.{◌≡◌, ℕ, zero, suc, ◌+◌, ◌-◌, ◌*◌, ◌/◌, ◌%◌, ◌^◌, ◌<◌, ◌≤◌, Bool, true, ◌&&◌, T, eqb, List, [], ◌∷◌, ◌++◌}
use Rattle.std.proofs.Common.{get_or, refl, ap, ◌∙◌, inl, inr, arith, eq-zero-or-pos, eqb→eq, append_assoc}
use Rattle.std.proofs.lemmas.Fmt.{decimal_digit, decimal_step}
use Rattle.std.specs.Fmt.{decimal}
use lib.Ieee.Fits.{and_l, and_r}
use Rattle.cip_text.specs.Texts.{four_digits}
use Rattle.cip_text.specs.declared.line.TheConstants.{TENS}

abbrev are_tens : ℕ → Bool
are_tens zero = true
are_tens (suc p) = (eqb (get_or TENS (2 * p) 0) (48 + p / 10) && eqb (get_or TENS (2 * p + 1) 0) (48 + p % 10)) && are_tens p

tens_below : (n p : ℕ) → T (are_tens n) → p < n → (get_or TENS (2 * p) 0 ≡ 48 + p / 10) × (get_or TENS (2 * p + 1) 0 ≡ 48 + p % 10)
tens_below zero p t h = absurd (omega arith)
tens_below (suc n) p t h =
    elim (eq-zero-or-pos (n - p)) [
      | inl z ↦ let e : p ≡ n = omega arith in let a = and_l _ (are_tens n) t in rw e (eqb→eq _ _ (and_l _ _ a), eqb→eq _ _ (and_r _ _ a))
      | inr g ↦ tens_below n p (and_r _ (are_tens n) t) (omega arith)
    ]

pub TENS_at : (p : ℕ) → p < 100 → (get_or TENS (2 * p) 0 ≡ 48 + p / 10) × (get_or TENS (2 * p + 1) 0 ≡ 48 + p % 10)
TENS_at p h = tens_below 100 p tt h

abbrev pair : ℕ → List ℕ
pair p = (48 + p / 10) ∷ (48 + p % 10) ∷ []

pub decimal_two : (n : ℕ) → 10 ≤ n → n < 100 → decimal n ≡ (48 + n / 10) ∷ (48 + n % 10) ∷ []
decimal_two n lo hi = rw (decimal_step n lo (omega arith), decimal_digit (n / 10) (omega arith))

pub decimal_pair : (n : ℕ) → 100 ≤ n → n < 2 ^ 64 → decimal n ≡ decimal (n / 100) ++ pair (n % 100)
decimal_pair n lo hi =
    let a : n / 10 / 10 ≡ n / 100 = omega arith in
    let b : n / 10 % 10 ≡ n % 100 / 10 = omega arith in
    let c : n % 10 ≡ n % 100 % 10 = omega arith in
    rw (decimal_step n (omega arith) hi, decimal_step (n / 10) (omega arith) (omega arith), append_assoc, a, b, ← c)

-- a number below 10,000 as two pairs
pub four_pairs : (n : ℕ) → n < 10000 → pair (n / 100) ++ pair (n % 100) ≡ four_digits n
four_pairs n h =
    let a : n / 100 / 10 ≡ n / 1000 = omega arith in
    let b : n % 100 / 10 ≡ n / 10 % 10 = omega arith in
    let c : n % 100 % 10 ≡ n % 10 = omega arith in
    rw (a, b, c) refl

-- four digits behind those of a longer number
pub decimal_long : (n : ℕ) → 10000 ≤ n → n < 2 ^ 64 → decimal n ≡ decimal (n / 10000) ++ four_digits (n % 10000)
decimal_long n lo hi =
    let a : n / 100 / 100 ≡ n / 10000 = omega arith in
    let b : n / 100 % 100 / 10 ≡ n % 10000 / 1000 = omega arith in
    let c : n / 100 % 100 % 10 ≡ n % 10000 / 100 % 10 = omega arith in
    let d : n % 100 / 10 ≡ n % 10000 / 10 % 10 = omega arith in
    let e : n % 100 % 10 ≡ n % 10000 % 10 = omega arith in
    rw (decimal_pair n (omega arith) hi, decimal_pair (n / 100) (omega arith) (omega arith), append_assoc, a, b, c, d, e)

-- eight digits behind those of a longer number
pub decimal_wide : (n : ℕ) → 100000000 ≤ n → n < 2 ^ 64
    → decimal n ≡ decimal (n / 100000000) ++ four_digits (n % 100000000 / 10000) ++ four_digits (n % 100000000 % 10000)
decimal_wide n lo hi =
    let a : n / 10000 / 10000 ≡ n / 100000000 = omega arith in
    let b : n / 10000 % 10000 ≡ n % 100000000 / 10000 = omega arith in
    let c : n % 10000 ≡ n % 100000000 % 10000 = omega arith in
    decimal_long n (omega arith) hi
    ∙ ap (λ (x : List ℕ). x ++ four_digits (n % 10000)) (decimal_long (n / 10000) (omega arith) (omega arith))
    ∙ rw (a, b, ← c) refl
