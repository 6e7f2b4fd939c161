-- Which characters stand in what is written, and where it is parted.
use Rattle.std.proofs.Common.{◌≡◌, ℕ, zero, suc, ◌≤◌, ◌<◌, ◌^◌, ◌/◌, ◌%◌, ◌++◌, ◌∷◌, ◌==◌, ◌&&◌, Bool, true, false, not, List, [], length, get_or, drop, Some}
use Rattle.std.proofs.Common.{Result, Ok, Err, refl, ap, ◌∙◌, append_assoc, append-nil, ◌+◌, arith, rules, inl, inr}
use Rattle.std.specs.Prelude.{nat_lt, decimal, All, OnOk}
use Rattle.std.specs.Char.{digit_value}
use Rattle.std.specs.List.{list_all, list_any, slice_split, join_with_byte}
use Rattle.std.specs.Str.{bytes_eq, IsUtf8, IsAscii}
use Rattle.std.proofs.lemmas.Str.{IsUtf8-from_ascii, encode_ascii}
use Rattle.std.proofs.lemmas.Str.Ascii.{IsAscii-nil, IsAscii-cons}
use Rattle.std.specs.Char.{encode_utf8}
use Rattle.std.proofs.lemmas.List.{drop_all, drop_more}
use Rattle.std.specs.Str.Parse.{digits_value}
use Rattle.std.proofs.Math.Bool.{and-false}
use Rattle.std.proofs.lemmas.Bool.{cases_Bool, and_parts}
use Rattle.std.proofs.lemmas.Bool.Decides.{nat_tests}
use Rattle.std.proofs.lemmas.Fmt.{digits_decimal, digits_value-decimal, decimal_nonempty}
use Rattle.std.proofs.lemmas.List.Elements.{All-nil, All-cons}
use Rattle.std.proofs.lemmas.List.Folds.{list_all-append}
use Rattle.std.proofs.lemmas.List.Splits.{slice_split_at, slice_split_none}
use Rattle.std.proofs.lemmas.Slice.Eq.{bytes_eq-Decides}
use Rattle.std.proofs.lemmas.Str.Parse.{IsNumeralModel, numerals_by_value}
use Rattle.hex.specs.Hex.{encode_upper, encode_with, upper_digits}
use Rattle.cip_tool.specs.Numbers.{number_of, below}
use Rattle.cip_tool.specs.Words.{is_decimal_digit, is_marked, is_equals, is_slash, is_plain, is_name}
use Rattle.cip_tool.specs.Routes.{is_comma, is_segment}
use Rattle.cip_tool.proofs.Numerals.{lt_true}

-- a text in which no character passes the test
abbrev pub lacks : (ℕ → Bool) → List ℕ → Bool
lacks p word = list_all (λ b. not (p b)) word

pub not_true : (b : Bool) → not b ≡ true → b ≡ false
not_true true e = absurd cc
not_true false e = refl

pub none_pass : (p : ℕ → Bool) (word : List ℕ) → lacks p word ≡ true → All (λ b. p b ≡ false) word
none_pass p [] h = All-nil (λ b. p b ≡ false)
none_pass p (b ∷ more) h =
    let parts = and_parts (not (p b)) (lacks p more) h in
    All-cons (λ b. p b ≡ false) b more (not_true (p b) parts.0) (none_pass p more parts.1)

both_true : (x y : Bool) → x ≡ true → y ≡ true → (x && y) ≡ true
both_true x y h k = rw (h, k) refl

-- what passes one test passes another that is wider
pub all_wider : (p q : ℕ → Bool) → ((b : ℕ) → p b ≡ true → q b ≡ true) → (word : List ℕ) → list_all p word ≡ true → list_all q word ≡ true
all_wider p q wider [] h = refl
all_wider p q wider (b ∷ more) h =
    let parts = and_parts (p b) (list_all p more) h in
    both_true (q b) (list_all q more) (wider b parts.0) (all_wider p q wider more parts.1)

pub all_both : (p : ℕ → Bool) (front back : List ℕ) → list_all p front ≡ true → list_all p back ≡ true → list_all p (front ++ back) ≡ true
all_both p front back h k = list_all-append p front back ∙ both_true (list_all p front) (list_all p back) h k

own : IsNumeralModel (λ ds. list_all is_decimal_digit ds ≡ true) (digits_value 10)
own = numerals_by_value _ (search rules)

pub are_digits : (n : ℕ) → n < 2 ^ 64 → list_all is_decimal_digit (decimal n) ≡ true
are_digits n h = digits_decimal own n h

digit_not : (c b : ℕ) → (c ≤ 47) → is_decimal_digit b ≡ true → not (b == c) ≡ true
digit_not c b low h = grind (arith, nat_tests)

equals_not : (b : ℕ) → is_decimal_digit b ≡ true → not (is_equals b) ≡ true
equals_not b h = grind (arith, nat_tests)

pub digits_no_comma : (word : List ℕ) → list_all is_decimal_digit word ≡ true → lacks is_comma word ≡ true
digits_no_comma word h = all_wider is_decimal_digit (λ b. not (is_comma b)) (λ b k. digit_not 44 b (omega arith) k) word h

pub digits_no_slash : (word : List ℕ) → list_all is_decimal_digit word ≡ true → lacks is_slash word ≡ true
digits_no_slash word h = all_wider is_decimal_digit (λ b. not (is_slash b)) (λ b k. digit_not 47 b (omega arith) k) word h

pub digits_no_equals : (word : List ℕ) → list_all is_decimal_digit word ≡ true → lacks is_equals word ≡ true
digits_no_equals word h = all_wider is_decimal_digit (λ b. not (is_equals b)) equals_not word h

plain_comma : (b : ℕ) → is_plain b ≡ true → not (is_comma b) ≡ true
plain_comma b h =
    let front = and_parts (nat_lt 32 b && nat_lt b 127 && not (b == 44) && not (b == 61)) (not (b == 64)) h in
    let middle = and_parts (nat_lt 32 b && nat_lt b 127 && not (b == 44)) (not (b == 61)) front.0 in
    (and_parts (nat_lt 32 b && nat_lt b 127) (not (b == 44)) middle.0).1

plain_equals : (b : ℕ) → is_plain b ≡ true → not (is_equals b) ≡ true
plain_equals b h =
    let front = and_parts (nat_lt 32 b && nat_lt b 127 && not (b == 44) && not (b == 61)) (not (b == 64)) h in
    (and_parts (nat_lt 32 b && nat_lt b 127 && not (b == 44)) (not (b == 61)) front.0).1

pub plain_no_comma : (word : List ℕ) → list_all is_plain word ≡ true → lacks is_comma word ≡ true
plain_no_comma word h = all_wider is_plain (λ b. not (is_comma b)) plain_comma word h

pub plain_no_equals : (word : List ℕ) → list_all is_plain word ≡ true → lacks is_equals word ≡ true
plain_no_equals word h = all_wider is_plain (λ b. not (is_equals b)) plain_equals word h

table_at : (q : ℕ → Bool) (t : List ℕ) (i : ℕ) → list_all q t ≡ true → q 0 ≡ true → q (get_or t i 0) ≡ true
table_at q [] i h z = z
table_at q (b ∷ more) zero h z = (and_parts (q b) (list_all q more) h).0
table_at q (b ∷ more) (suc i) h z = table_at q more i (and_parts (q b) (list_all q more) h).1 z

plain_small : (b : ℕ) → is_plain b ≡ true → b < 128
plain_small b h = grind (arith, nat_tests)

plain_ascii : (word : List ℕ) → list_all is_plain word ≡ true → IsAscii word
plain_ascii [] h = IsAscii-nil
plain_ascii (b ∷ more) h =
    let parts = and_parts (is_plain b) (list_all is_plain more) h in
    IsAscii-cons b more (plain_small b parts.0) (plain_ascii more parts.1)

-- what holds of each digit holds of each pair
pub pairs_all : (q : ℕ → Bool) (bytes : List ℕ) → list_all q upper_digits ≡ true → q 0 ≡ true → list_all q (encode_upper bytes) ≡ true
unfolding encode_with
pairs_all q [] h z = refl
pairs_all q (b ∷ more) h z =
    both_true (q (get_or upper_digits (b / 16) 0)) (q (get_or upper_digits (b % 16) 0) && list_all q (encode_upper more))
    (table_at q upper_digits (b / 16) h z)
    (both_true (q (get_or upper_digits (b % 16) 0)) (list_all q (encode_upper more)) (table_at q upper_digits (b % 16) h z) (pairs_all q more h z))

pub pairs_no_comma : (bytes : List ℕ) → lacks is_comma (encode_upper bytes) ≡ true
pairs_no_comma bytes = pairs_all (λ b. not (is_comma b)) bytes refl refl

pub pairs_no_equals : (bytes : List ℕ) → lacks is_equals (encode_upper bytes) ≡ true
pairs_no_equals bytes = pairs_all (λ b. not (is_equals b)) bytes refl refl

-- characters that stand for themselves are a text
pub plain_utf8 : (word : List ℕ) → list_all is_plain word ≡ true → IsUtf8 word
plain_utf8 word h = IsUtf8-from_ascii word (plain_ascii word h)

-- a name has none but such characters
pub name_plain : (word : List ℕ) → is_name word ≡ true → list_all is_plain word ≡ true
name_plain word h =
    let front : Bool = nat_lt 1 (length word) && nat_lt (length word) 17 && not (is_marked word) in
    (and_parts front (list_all is_plain word) (and_parts (front && list_all is_plain word) (not (list_all is_decimal_digit word)) h).0).1

-- digits are no text that begins with something else
pub digits_other : (word : List ℕ) (c : ℕ) (more : List ℕ) → list_all is_decimal_digit word ≡ true → is_decimal_digit c ≡ false
    → bytes_eq word (c ∷ more) ≡ false
digits_other word c more h k = elim (cases_Bool (bytes_eq word (c ∷ more))) [
  | inl same ↦
      let e : word ≡ c ∷ more = (bytes_eq-Decides word (c ∷ more)).0 same in
      let are : list_all is_decimal_digit (c ∷ more) ≡ true = rw e at h in
      let is : is_decimal_digit c ≡ true = (and_parts (is_decimal_digit c) (list_all is_decimal_digit more) are).0 in
      absurd cc
  | inr other ↦ other
]

pub digits_not_marked : (word : List ℕ) → list_all is_decimal_digit word ≡ true → is_marked word ≡ false
digits_not_marked [] h = refl
digits_not_marked (a ∷ []) h = and-false (a == 48)
digits_not_marked (a ∷ b ∷ more) h =
    let first = and_parts (is_decimal_digit a) (list_all is_decimal_digit (b ∷ more)) h in
    let second = (and_parts (is_decimal_digit b) (list_all is_decimal_digit more) first.1).0 in
    let other : (b == 120) ≡ false = grind (arith, nat_tests, second) in
    rw other (and-false (a == 48))

no_equals : (word : List ℕ) → lacks is_equals word ≡ true → list_any is_equals word ≡ false
no_equals [] h = refl
no_equals (b ∷ more) h =
    let parts = and_parts (not (is_equals b)) (lacks is_equals more) h in
    rw (not_true (is_equals b) parts.0) (no_equals more parts.1)

pub digits_no_segment : (word : List ℕ) → list_all is_decimal_digit word ≡ true → is_segment word ≡ false
digits_no_segment [] h = refl
digits_no_segment (a ∷ more) h =
    let first = (and_parts (is_decimal_digit a) (list_all is_decimal_digit more) h).0 in
    let other : (a == 64) ≡ false = grind (arith, nat_tests, first) in
    rw (other, no_equals (a ∷ more) (digits_no_equals (a ∷ more) h)) refl

value_below : (c : ℕ) → is_decimal_digit c ≡ true → nat_lt (digit_value c) 10 ≡ true
value_below c h = grind (arith, nat_tests)

-- a number is read in its digits
pub number_back : (bound n : ℕ) → n < bound → n < 2 ^ 64 → below bound (number_of (decimal n)) ≡ Some n
unfolding number_of
number_back bound n h k =
    let digits = are_digits n k in
    let plain : is_marked (decimal n) ≡ false = digits_not_marked (decimal n) digits in
    let some = lt_true 0 (length (decimal n)) (decimal_nonempty n k) in
    let are : list_all (λ c. nat_lt (digit_value c) 10) (decimal n) ≡ true =
    all_wider is_decimal_digit (λ c. nat_lt (digit_value c) 10) value_below (decimal n) digits in
    let value : digits_value 10 (decimal n) ≡ n = digits_value-decimal own n k in
    rw (plain, some, are, value, lt_true n bound h) refl

-- every word of a list lacks such a character
abbrev pub AllLack : (ℕ → Bool) → List (List ℕ) → Type 0
AllLack p [] = Unit {0}
AllLack p (word ∷ words) = (lacks p word ≡ true) × AllLack p words

-- words are parted where they were joined
pub split_joined : (p : ℕ → Bool) (c : ℕ) → p c ≡ true → (word : List ℕ) (words : List (List ℕ)) → lacks p word ≡ true → AllLack p words
    → slice_split p (join_with_byte c (word ∷ words)) ≡ word ∷ words
split_joined p c at word [] h k = slice_split_none p word (none_pass p word h)
split_joined p c at word (next ∷ words) h k =
    slice_split_at p word c (join_with_byte c (next ∷ words)) (none_pass p word h) at
    ∙ ap (λ (l : List (List ℕ)). word ∷ l) (split_joined p c at next words k.0 k.1)

digit_small : (i : ℕ) → get_or upper_digits i 0 < 128
digit_small i = let small = table_at (λ c. nat_lt c 128) upper_digits i refl refl in grind (arith, nat_tests)

-- two digits that were put are a pair
pub pair_put : (old middle new : List ℕ) (b d e : ℕ) → middle ≡ old ++ encode_utf8 d → new ≡ middle ++ encode_utf8 e → d ≡ get_or upper_digits (b / 16) 0
    → e ≡ get_or upper_digits (b % 16) 0 → new ≡ old ++ encode_upper (b ∷ [])
unfolding encode_with
pair_put old middle new b d e first second is_first is_second =
    let one : encode_utf8 d ≡ get_or upper_digits (b / 16) 0 ∷ [] = rw is_first (encode_ascii (get_or upper_digits (b / 16) 0) (digit_small (b / 16))) in
    let other : encode_utf8 e ≡ get_or upper_digits (b % 16) 0 ∷ [] = rw is_second (encode_ascii (get_or upper_digits (b % 16) 0) (digit_small (b % 16))) in
    rw (second, first, one, other, append_assoc) refl

pub pairs_step : (all old new bytes : List ℕ) (i : ℕ) → i < length bytes → new ≡ old ++ encode_upper (get_or bytes i 0 ∷ [])
    → old ++ encode_upper (drop i bytes) ≡ all → new ++ encode_upper (drop (i + 1) bytes) ≡ all
unfolding encode_with
pairs_step all old new bytes i h put rest =
    let more : old ++ encode_upper (get_or bytes i 0 ∷ drop (i + 1) bytes) ≡ all = rw (drop_more bytes i 0 h) at rest in
    rw (put, append_assoc) more

pub pairs_done : (all text bytes : List ℕ) (i : ℕ) → length bytes ≤ i → text ++ encode_upper (drop i bytes) ≡ all → text ≡ all
unfolding encode_with
pairs_done all text bytes i h rest = rw (drop_all i bytes h, append-nil) at rest

pub always : {A E P : Type 0} (r : Result A E) → P → OnOk r P
always (Ok x) h = h
always (Err e) h = tt
