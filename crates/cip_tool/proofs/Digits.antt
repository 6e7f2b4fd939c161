-- The table of the values of digits.
use Rattle.std.proofs.Common.{◌≡◌, ℕ, zero, suc, ◌-◌, ◌<◌, Bool, true, ◌&&◌, T, eqb, get_or, inl, inr, arith, eq-zero-or-pos, eqb→eq}
use Rattle.std.specs.Char.{digit_value}
use lib.Ieee.Fits.{and_l, and_r}
use Rattle.cip_tool.specs.declared.numbers.TheConstants.{DIGITS}

abbrev are_digits : ℕ → Bool
are_digits zero = true
are_digits (suc b) = eqb (get_or DIGITS b 0) (digit_value b) && are_digits b

digits_below : (n b : ℕ) → T (are_digits n) → b < n → get_or DIGITS b 0 ≡ digit_value b
digits_below zero b t h = absurd (omega arith)
digits_below (suc n) b t h =
    elim (eq-zero-or-pos (n - b)) [
      | inl z ↦ let e : b ≡ n = omega arith in rw e (eqb→eq _ _ (and_l _ (are_digits n) t))
      | inr g ↦ digits_below n b (and_r _ (are_digits n) t) (omega arith)
    ]

pub DIGITS_at : (b : ℕ) → b < 256 → get_or DIGITS b 0 ≡ digit_value b
DIGITS_at b h = digits_below 256 b tt h
