-- The table of pairs of digits, and bytes that are written by it.
use Rattle.std.proofs.Common.{◌≡◌, ℕ, zero, suc, ◌+◌, ◌-◌, ◌*◌, ◌/◌, ◌%◌, ◌<◌, ◌≤◌, Bool, true, ◌&&◌, T, eqb, List, [], ◌∷◌, ◌++◌, length, take, drop}
use Rattle.std.proofs.Common.{get_or, slice_index, slice_set, refl, ap, inl, inr, arith, eq-zero-or-pos, eqb→eq, append_assoc}
use Rattle.std.proofs.lemmas.List.{append-nil, drop_all, drop_more, take_all, take_more_set, length-set, take-append-drop}
use Rattle.std.proofs.lemmas.Str.{IsUtf8-from_ascii}
use Rattle.std.proofs.lemmas.Str.Ascii.{IsAscii-from_all}
use Rattle.std.proofs.lemmas.List.Elements.{All-nil, All-cons}
use Rattle.std.proofs.Math.Dec.{ltb, lit<}
use Rattle.std.specs.List.{All}
use Rattle.std.specs.Str.{IsUtf8}
use Rattle.hex.proofs.HexLemmas.{IsAscii-encode_with}
use Rattle.hex.specs.Hex.{encode_upper, encode_with, upper_digits}
use lib.Ieee.Fits.{and_l, and_r}
use Rattle.cip_text.specs.declared.pairs.TheConstants.{PAIRS}

abbrev are_pairs : ℕ → Bool
are_pairs zero = true
are_pairs (suc p) = (eqb (get_or PAIRS (2 * p) 0) (slice_index upper_digits (p / 16)) && eqb (get_or PAIRS (2 * p + 1) 0) (slice_index upper_digits (p % 16)))
    && are_pairs p

pairs_below : (n p : ℕ) → T (are_pairs n) → p < n
    → (get_or PAIRS (2 * p) 0 ≡ slice_index upper_digits (p / 16)) × (get_or PAIRS (2 * p + 1) 0 ≡ slice_index upper_digits (p % 16))
pairs_below zero p t h = absurd (omega arith)
pairs_below (suc n) p t h =
    elim (eq-zero-or-pos (n - p)) [
      | inl z ↦ let e : p ≡ n = omega arith in let a = and_l _ (are_pairs n) t in rw e (eqb→eq _ _ (and_l _ _ a), eqb→eq _ _ (and_r _ _ a))
      | inr g ↦ pairs_below n p (and_r _ (are_pairs n) t) (omega arith)
    ]

pub PAIRS_at : (p : ℕ) → p < 256
    → (get_or PAIRS (2 * p) 0 ≡ slice_index upper_digits (p / 16)) × (get_or PAIRS (2 * p + 1) 0 ≡ slice_index upper_digits (p % 16))
PAIRS_at p h = pairs_below 256 p tt h

-- two writes in a row, seen from the front
pub take_two_writes : (xs : List ℕ) (o x y : ℕ) → o + 1 < length xs
    → take (o + 2) (slice_set (slice_set xs o x) (o + 1) y) ≡ take o xs ++ (x ∷ y ∷ [])
take_two_writes xs o x y fits =
    let len : length (slice_set xs o x) ≡ length xs = length-set xs o x in
    let two : o + 2 ≡ o + 1 + 1 = omega arith in
    let second = take_more_set (slice_set xs o x) (o + 1) y (omega (arith, len)) in
    let first = take_more_set xs o x (omega arith) in
    rw (two, second, first) (append_assoc (take o xs) (x ∷ []) (y ∷ []))

encode_drop : (t xs : List ℕ) (i : ℕ) → i < length xs
    → encode_with t (drop i xs)
    ≡ slice_index t (slice_index xs i / 16) ∷ slice_index t (slice_index xs i % 16) ∷ encode_with t (drop (i + 1) xs)
unfolding encode_with
encode_drop t xs i h = rw (drop_more xs i 0 h) refl

-- one byte more is written
pub encode_step : (t input output : List ℕ) (i x y : ℕ) → i < length input → 2 * i + 1 < length output
    → x ≡ slice_index t (slice_index input i / 16) → y ≡ slice_index t (slice_index input i % 16)
    → take (2 * i) output ++ encode_with t (drop i input) ≡ encode_with t input
    → take (2 * (i + 1)) (slice_set (slice_set output (2 * i) x) (2 * i + 1) y) ++ encode_with t (drop (i + 1) input) ≡ encode_with t input
encode_step t input output i x y h fits ex ey inv =
    let two : 2 * (i + 1) ≡ 2 * i + 2 = omega arith in
    let front = take_two_writes output (2 * i) x y fits in
    let rest = encode_drop t input i h in
    rw (two, front, append_assoc, ex, ey) (rw rest at inv)

-- every byte is written
pub encode_done : (t input output : List ℕ) (i : ℕ) → length input ≤ i → length output ≡ 2 * length input
    → take (2 * i) output ++ encode_with t (drop i input) ≡ encode_with t input
    → output ≡ encode_with t input
unfolding encode_with
encode_done t input output i h len inv =
    let d = drop_all i input h in
    let a = take_all (2 * i) output (omega arith) in
    rw (d, a, append-nil) at inv

encode_append : (t xs ys : List ℕ) → encode_with t (xs ++ ys) ≡ encode_with t xs ++ encode_with t ys
unfolding encode_with
encode_append t [] ys = refl
encode_append t (b ∷ xs) ys = ap (λ l. slice_index t (b / 16) ∷ slice_index t (b % 16) ∷ l) (encode_append t xs ys)

-- so many bytes first, and then the others
pub encode_split : (t : List ℕ) (n : ℕ) (xs : List ℕ) → encode_with t (take n xs) ++ encode_with t (drop n xs) ≡ encode_with t xs
encode_split t n xs = rw (← encode_append t (take n xs) (drop n xs), take-append-drop n xs) refl

abbrev all_low : List ℕ → Bool
all_low [] = true
all_low (b ∷ bs) = ltb b 128 && all_low bs

low_bytes : (xs : List ℕ) → T (all_low xs) → All (λ b. b < 128) xs
low_bytes [] t = All-nil (λ b. b < 128)
low_bytes (b ∷ bs) t = All-cons (λ x. x < 128) b bs (lit< (and_l _ (all_low bs) t)) (low_bytes bs (and_r _ (all_low bs) t))

-- digits are a text
pub pairs_are_text : (xs : List ℕ) → IsUtf8 (encode_upper xs)
pairs_are_text xs = IsUtf8-from_ascii (encode_upper xs) (IsAscii-encode_with upper_digits xs (IsAscii-from_all upper_digits (low_bytes upper_digits tt)))
