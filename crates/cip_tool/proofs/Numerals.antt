-- Numbers, one digit after the other.
use Rattle.std.proofs.Common.{◌≡◌, ◌==◌, ℕ, ◌+◌, ◌*◌, ◌<◌, ◌≤◌, ◌^◌, true, false, if◌then◌else◌, List, [], ◌∷◌, ◌++◌, length, get_or, take, drop}
use Rattle.std.proofs.Common.{take-append-drop}
use Rattle.std.proofs.Common.{Option, Some, None, refl, sym, ap, ◌∙◌, arith, inl, inr}
use Rattle.std.specs.Prelude.{nat_lt}
use Rattle.std.specs.List.{list_all}
use Rattle.std.specs.Char.{digit_value}
use Rattle.std.specs.Str.{bytes_eq}
use Rattle.std.specs.Str.Parse.{digits_value_after}
use Rattle.std.proofs.lemmas.Bool.{cases_Bool}
use Rattle.std.proofs.lemmas.Bool.Decides.{nat_tests}
use Rattle.std.proofs.lemmas.List.{drop_more, drop_all}
use Rattle.std.proofs.lemmas.Slice.Eq.{bytes_eq-Decides}
use Rattle.std.proofs.Math.Nat.{le-mul_of_pos_right}
use Rattle.cip_tool.specs.Numbers.{numeral, below, number_of}

-- the number that digits write behind those of n, if it is below 2 ^ 64
abbrev pub read_after : ℕ → ℕ → List ℕ → Option ℕ
read_after radix n ds = below (2 ^ 64) (if list_all (λ c. nat_lt (digit_value c) radix) ds then Some (digits_value_after radix n ds) else None)

pub lt_true : (m n : ℕ) → m < n → nat_lt m n ≡ true
lt_true m n h = grind (arith, nat_tests)

pub lt_false : (m n : ℕ) → n ≤ m → nat_lt m n ≡ false
lt_false m n h = grind (arith, nat_tests)

after_le : (radix n : ℕ) (ds : List ℕ) → 1 ≤ radix → n ≤ digits_value_after radix n ds
after_le radix n [] h = omega arith
after_le radix n (c ∷ cs) h =
    let more = after_le radix (n * radix + digit_value c) cs h in
    omega (arith, more, le-mul_of_pos_right {m = radix} n h)

pub read_start : (radix : ℕ) (ds : List ℕ) → 0 < length ds → below (2 ^ 64) (numeral radix ds) ≡ read_after radix 0 ds
read_start radix ds h = rw (lt_true 0 (length ds) h) refl

read_end : (radix n : ℕ) → n < 2 ^ 64 → read_after radix n [] ≡ Some n
read_end radix n h = rw (lt_true n (2 ^ 64) h) refl

read_more : (radix n c : ℕ) (cs : List ℕ) → digit_value c < radix → read_after radix n (c ∷ cs) ≡ read_after radix (n * radix + digit_value c) cs
read_more radix n c cs h = rw (lt_true (digit_value c) radix h) refl

read_over : (radix n : ℕ) (ds : List ℕ) → 1 ≤ radix → 2 ^ 64 ≤ n → read_after radix n ds ≡ None
read_over radix n ds h k =
    let over = lt_false (digits_value_after radix n ds) (2 ^ 64) (omega (arith, after_le radix n ds h)) in
    elim (cases_Bool (list_all (λ c. nat_lt (digit_value c) radix) ds)) [
      | inl good ↦ rw (good, over) refl
      | inr bad ↦ rw bad refl
    ]

read_step : (radix n i : ℕ) (ds : List ℕ) (all : Option ℕ) → i < length ds → digit_value (get_or ds i 0) < radix
    → read_after radix n (drop i ds) ≡ all → read_after radix (n * radix + digit_value (get_or ds i 0)) (drop (i + 1) ds) ≡ all
read_step radix n i ds all h k e = sym (read_more radix n (get_or ds i 0) (drop (i + 1) ds) k) ∙ ap (read_after radix n) (sym (drop_more ds i 0 h)) ∙ e

pub read_full : (radix n i : ℕ) (ds : List ℕ) (all : Option ℕ) → 1 ≤ radix → i < length ds → digit_value (get_or ds i 0) < radix
    → 2 ^ 64 ≤ n * radix + digit_value (get_or ds i 0) → read_after radix n (drop i ds) ≡ all → all ≡ None
read_full radix n i ds all some h k over e = sym (read_step radix n i ds all h k e) ∙ read_over radix _ (drop (i + 1) ds) some over

pub read_done : (radix n i : ℕ) (ds : List ℕ) (all : Option ℕ) → length ds ≤ i → n < 2 ^ 64 → read_after radix n (drop i ds) ≡ all → all ≡ Some n
read_done radix n i ds all h k e = sym e ∙ ap (read_after radix n) (drop_all i ds h) ∙ read_end radix n k

-- a word with no 0x in front
pub number_decimal : (word : List ℕ) → ((rest : List ℕ) → word ≡ 48 ∷ 120 ∷ rest → ⊥) → below (2 ^ 64) (number_of word) ≡ below (2 ^ 64) (numeral 10 word)
unfolding number_of
number_decimal word h =
    elim (cases_Bool (bytes_eq (take 2 word) (48 ∷ 120 ∷ []))) [
      | inl is_hex ↦
          let front = (bytes_eq-Decides (take 2 word) (48 ∷ 120 ∷ [])).0 is_hex in
          absurd (h (drop 2 word) (sym (take-append-drop 2 word) ∙ ap (λ l. l ++ drop 2 word) front))
      | inr not_hex ↦ rw not_hex refl
    ]

pub number_hex : (word rest : List ℕ) → word ≡ 48 ∷ 120 ∷ rest → below (2 ^ 64) (number_of word) ≡ below (2 ^ 64) (numeral 16 rest)
unfolding number_of
number_hex word rest e = rw e refl

pub not_empty : (n : ℕ) → false ≡ (n == 0) → 0 < n
not_empty n h = grind (arith, nat_tests)
