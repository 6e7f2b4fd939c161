-- Bytes, one pair of digits after the other.
use Rattle.std.proofs.Common.{◌≡◌, ℕ, ◌+◌, ◌*◌, ◌%◌, ◌<◌, ◌≤◌, true, false, ◌==◌, ◌⊎◌, inl, inr, List, [], ◌∷◌, ◌++◌, length, take, Option, Some, None, Ok, Err}
use Rattle.std.proofs.Common.{refl, ap, ◌∙◌, arith}
use Rattle.std.specs.Str.{bytes_eq}
use Rattle.std.specs.Char.{digit_value}
use Rattle.std.proofs.lemmas.Bool.{cases_Bool, cases_lt}
use Rattle.std.proofs.lemmas.Bool.Decides.{nat_tests}
use Rattle.std.proofs.lemmas.List.{take-append-le, take_all}
use Rattle.std.proofs.lemmas.Slice.Eq.{bytes_eq-Decides}
use Rattle.hex.specs.Hex.{hex_digit_value, pair_value, decode_of, decode_pairs}
use Rattle.hex.specs.declared.error.FromHexError.{FromHexError}
use Rattle.hex.specs.declared.error.FromHexError.TheVariants.{InvalidHexCharacter}
use Rattle.cip_script.specs.Text.{ok_bytes, bytes_of}

pub not_empty : (n : ℕ) → false ≡ (n == 0) → 0 < n
not_empty n h = grind (arith, nat_tests)

pub is_zero : (n : ℕ) → true ≡ (n == 0) → n ≡ 0
is_zero n h = grind (arith, nat_tests)

pub front : (n : ℕ) (out rest : List ℕ) → n ≡ length out → take n (out ++ rest) ≡ out
front n out rest h = take-append-le n out rest (omega arith) ∙ take_all n out (omega arith)

hex_digit : (c : ℕ) → digit_value c < 16 → hex_digit_value c ≡ Some (digit_value c)
hex_digit c h = grind (arith, nat_tests)

no_hex_digit : (c : ℕ) → 16 ≤ digit_value c → hex_digit_value c ≡ None
no_hex_digit c h = grind (arith, nat_tests)

pub pair_read : (a b i v : ℕ) → digit_value a < 16 → digit_value b < 16 → v ≡ 16 * digit_value a + digit_value b → pair_value a b i ≡ Ok v
pair_read a b i v h k e =
    let x = hex_digit a h in
    let y = hex_digit b k in
    let swap : digit_value a * 16 + digit_value b ≡ v = omega (arith, e) in
    rw (x, y) (ap Ok swap)

pub pair_refused : (a b i : ℕ) → (16 ≤ digit_value a) ⊎ (16 ≤ digit_value b) → (e : FromHexError) × (pair_value a b i ≡ Err e)
pair_refused a b i (inl h) = let x = no_hex_digit a h in (InvalidHexCharacter a i, rw x refl)
pair_refused a b i (inr k) = elim (cases_lt (digit_value a) 16) [
  | inl h ↦ let x = hex_digit a h in let y = no_hex_digit b k in (InvalidHexCharacter b (i + 1), rw (x, y) refl)
  | inr h ↦ let x = no_hex_digit a h in (InvalidHexCharacter a i, rw x refl)
]

-- pairs of digits are an even number of them
decode_even : (s : List ℕ) (n : ℕ) → length s ≡ 2 * n → decode_of s ≡ decode_pairs 0 s
decode_even s n h =
    let even : (length s % 2 == 1) ≡ false = grind (arith, nat_tests) in
    rw even refl

pub refused : (s : List ℕ) (n : ℕ) (e : FromHexError) → length s ≡ 2 * n → decode_pairs 0 s ≡ Err e → ok_bytes (decode_of s) ≡ None
refused s n e h k = rw (decode_even s n h, k) refl

pub decoded : (s : List ℕ) (n : ℕ) (out : List ℕ) → length s ≡ 2 * n → decode_pairs 0 s ≡ Ok out → ok_bytes (decode_of s) ≡ Some out
decoded s n out h k = rw (decode_even s n h, k) refl

no_dash : (word : List ℕ) → (word ≡ 45 ∷ [] → ⊥) → bytes_eq word (45 ∷ []) ≡ false
no_dash word k = elim (cases_Bool (bytes_eq word (45 ∷ []))) [
  | inl same ↦ absurd (k ((bytes_eq-Decides word (45 ∷ [])).0 same))
  | inr other ↦ other
]

pub bytes_of_dash : (word : List ℕ) → word ≡ 45 ∷ [] → bytes_of word ≡ Some []
unfolding bytes_of
bytes_of_dash word e = rw e refl

pub bytes_of_none : (word : List ℕ) → (length word ≡ 0) ⊎ (length word % 2 ≡ 1) → (word ≡ 45 ∷ [] → ⊥) → bytes_of word ≡ None
unfolding bytes_of
bytes_of_none word (inl h) k = let empty : (length word == 0) ≡ true = grind (arith, nat_tests) in rw (no_dash word k, empty) refl
bytes_of_none word (inr h) k =
    let odd : (length word % 2 == 1) ≡ true = grind (arith, nat_tests) in
    elim (cases_Bool (length word == 0)) [
      | inl empty ↦ rw (no_dash word k, empty) refl
      | inr some ↦ rw (no_dash word k, some, odd) refl
    ]

pub bytes_of_pairs : (word : List ℕ) (n : ℕ) (found : Option (List ℕ)) → length word ≡ 2 * n → 0 < length word → ok_bytes (decode_of word) ≡ found
    → bytes_of word ≡ found
unfolding bytes_of
bytes_of_pairs word n found h k e =
    let some : (length word == 0) ≡ false = grind (arith, nat_tests) in
    rw (no_dash word (λ d. absurd (omega (arith, ap length d))), some) e
