-- What is shown is read back.
use Rattle.std.proofs.Common.{◌≡◌, ℕ, ◌<◌, ◌≤◌, ◌*◌, ◌⊎◌, ◌^◌, ◌++◌, ◌∷◌, ◌==◌, List, [], length, true, false, Some, None, Result, Ok, Err, refl, sym, ap, ◌∙◌}
use Rattle.std.proofs.Common.{arith, rules}
use Rattle.std.proofs.Common.{inl, inr}
use Rattle.std.specs.Prelude.{nat_lt, decimal, All}
use Rattle.std.specs.Char.{is_ascii_digit}
use Rattle.std.specs.List.{list_all}
use Rattle.std.specs.Str.{bytes_eq}
use Rattle.std.specs.Str.Parse.{digits_value, ParsesUnsigned}
use Rattle.std.proofs.lemmas.Bool.{cases_Bool, cases_lt}
use Rattle.std.proofs.lemmas.Bool.Decides.{nat_tests}
use Rattle.std.proofs.lemmas.Fmt.{digits_decimal, digits_value-decimal, decimal_nonempty}
use Rattle.std.proofs.lemmas.List.Splits.{slice_split_at}
use Rattle.std.proofs.lemmas.Slice.Eq.{bytes_eq-Decides}
use Rattle.std.proofs.lemmas.Str.Parse.{IsNumeralModel, numerals_by_value, parse_digits}
use Rattle.hex.specs.Hex.{IsBytes, encode_upper, decode_of, upper_digits}
use Rattle.hex.specs.declared.error.FromHexError.{FromHexError}
use Rattle.hex.specs.declared.error.FromHexError.TheVariants.{OutOfMemory}
use Rattle.hex.proofs.HexLemmas.{decode_of-encode_upper, length-encode_with}
use Rattle.cip_words.specs.Shown.{is_space, words_of, number_of, below, bytes_of, bytes_shown, ok_bytes}

lt_true : (m n : ℕ) → m < n → nat_lt m n ≡ true
lt_true m n h = grind (arith, nat_tests)

-- a text of decimal digits, and its value
pub own : IsNumeralModel (λ ds. list_all is_ascii_digit ds ≡ true) (digits_value 10)
own = numerals_by_value _ (search rules)

pub number_back : (bound n : ℕ) → n < bound → n < 2 ^ 64 → below bound (number_of (decimal n)) ≡ Some n
unfolding number_of
number_back bound n h k =
    let some = lt_true 0 (length (decimal n)) (decimal_nonempty n k) in
    let are : list_all is_ascii_digit (decimal n) ≡ true = digits_decimal own n k in
    let value : digits_value 10 (decimal n) ≡ n = digits_value-decimal own n k in
    rw (some, are, value, lt_true n bound h) refl

pub no_dash : (word : List ℕ) → (word ≡ 45 ∷ [] → ⊥) → bytes_eq word (45 ∷ []) ≡ false
no_dash word k = elim (cases_Bool (bytes_eq word (45 ∷ []))) [
  | inl same ↦ absurd (k ((bytes_eq-Decides word (45 ∷ [])).0 same))
  | inr other ↦ other
]

not_zero : (n : ℕ) → 0 < n → (n == 0) ≡ false
not_zero n h = grind (arith, nat_tests)

-- what is no dash and not empty is decoded
pub pairs_read : (word : List ℕ) → bytes_eq word (45 ∷ []) ≡ false → 0 < length word → bytes_of word ≡ ok_bytes (decode_of word)
unfolding bytes_of
pairs_read word dash some = rw (dash, not_zero (length word) some) refl

pub dash_read : (word : List ℕ) → bytes_eq word (45 ∷ []) ≡ true → bytes_of word ≡ Some []
unfolding bytes_of
dash_read word dash = rw dash refl

pub empty_read : (word : List ℕ) → bytes_eq word (45 ∷ []) ≡ false → true ≡ (length word == 0) → bytes_of word ≡ None
unfolding bytes_of
empty_read word dash empty = rw (dash, sym empty) refl

pub not_empty : (n : ℕ) → false ≡ (n == 0) → 0 < n
not_empty n h = grind (arith, nat_tests)

-- an error that is not of memory is that of the digits
pub refused_read : (word : List ℕ) (e : FromHexError) → bytes_eq word (45 ∷ []) ≡ false → 0 < length word
    → (e ≡ OutOfMemory → ⊥) → (e ≡ OutOfMemory) ⊎ (decode_of word ≡ Err e) → bytes_of word ≡ None
refused_read word e dash some other (inl memory) = absurd (other memory)
refused_read word e dash some other (inr wrong) = pairs_read word dash some ∙ ap ok_bytes wrong

many_back : (bytes : List ℕ) → IsBytes bytes → 0 < length bytes → bytes_of (encode_upper bytes) ≡ Some bytes
many_back bytes h some =
    let word : List ℕ = encode_upper bytes in
    let double : length word ≡ 2 * length bytes = length-encode_with upper_digits bytes in
    let long : 0 < length word = omega (arith, double, some) in
    let dash : bytes_eq word (45 ∷ []) ≡ false = no_dash word (λ e.
    let one : length word ≡ 1 = ap length e in omega (arith, double, one)) in
    pairs_read word dash long ∙ ap ok_bytes (decode_of-encode_upper bytes h)

pub bytes_back : (bytes : List ℕ) → IsBytes bytes → bytes_of (bytes_shown bytes) ≡ Some bytes
bytes_back [] h = dash_read (45 ∷ []) refl
bytes_back (b ∷ more) h =
    let some : 0 < length (b ∷ more) = omega arith in
    let is_pairs : bytes_shown (b ∷ more) ≡ encode_upper (b ∷ more) = rw (not_zero (length (b ∷ more)) some) refl in
    ap bytes_of is_pairs ∙ many_back (b ∷ more) h some

-- numbers that can't be read
pub not_digits : (word : List ℕ) → list_all is_ascii_digit word ≡ false → below (2 ^ 64) (number_of word) ≡ None
unfolding number_of
not_digits word e = elim (cases_Bool (nat_lt 0 (length word))) [
  | inl some ↦ rw (some, e) refl
  | inr none ↦ rw none refl
]

pub digits_read : (word : List ℕ) (n : ℕ) → list_all is_ascii_digit word ≡ true → 0 < length word → digits_value 10 word < 2 ^ 64
    → n ≡ digits_value 10 word → Some n ≡ below (2 ^ 64) (number_of word)
unfolding number_of
digits_read word n are some fits e = rw (lt_true 0 (length word) some, are, lt_true (digits_value 10 word) (2 ^ 64) fits) (ap Some e)

lt_false : (m n : ℕ) → n ≤ m → nat_lt m n ≡ false
lt_false m n h = grind (arith, nat_tests)

pub digits_refused : (word : List ℕ) → list_all is_ascii_digit word ≡ true → ((0 < length word) × (digits_value 10 word < 2 ^ 64) → ⊥)
    → below (2 ^ 64) (number_of word) ≡ None
unfolding number_of
digits_refused word are bad = elim (cases_lt 0 (length word)) [
  | inl some ↦ elim (cases_lt (digits_value 10 word) (2 ^ 64)) [
    | inl fits ↦ absurd (bad (some, fits))
    | inr over ↦ rw (lt_true 0 (length word) some, are, lt_false (digits_value 10 word) (2 ^ 64) over) refl
  ]
  | inr none ↦ rw (lt_false 0 (length word) none) refl
]

pub words_back : (word rest : List ℕ) → All (λ b. is_space b ≡ false) word → words_of (word ++ 32 ∷ rest) ≡ word ∷ words_of rest
words_back word rest h = slice_split_at is_space word 32 rest h refl

pub number_ok : {E : Type 0} (word : List ℕ) (r : Result ℕ E) (n : ℕ) → list_all is_ascii_digit word ≡ true → ParsesUnsigned 64 10 word r
    → r ≡ Ok n → Some n ≡ below (2 ^ 64) (number_of word)
number_ok {E} word (Ok m) n are h e =
    let parsed = parse_digits own {E = E} 64 word (Ok m) h are in
    let same : n ≡ m = cc in
    digits_read word n are parsed.0.0 parsed.0.1 (same ∙ parsed.1)
number_ok word (Err x) n are h e = absurd cc

pub number_err : {E : Type 0} (word : List ℕ) (r : Result ℕ E) (x : E) → list_all is_ascii_digit word ≡ true → ParsesUnsigned 64 10 word r
    → r ≡ Err x → None ≡ below (2 ^ 64) (number_of word)
number_err {E} word (Err y) x are h e = sym (digits_refused word are (parse_digits own {E = E} 64 word (Err y) h are))
number_err word (Ok m) x are h e = absurd cc
