-- Words of a line: they hold no space and no end of a line.
use Rattle.std.proofs.Common.{◌≡◌, ℕ, ◌<◌, ◌/◌, ◌%◌, ◌^◌, ◌++◌, ◌∷◌, ◌==◌, ◌&&◌, Bool, List, [], length, true, false, refl, ap, ◌∙◌, arith, append_assoc}
use Rattle.std.proofs.Common.{slice_index}
use Rattle.std.proofs.Common.{inl, inr, zero, suc}
use Rattle.std.specs.Prelude.{nat_lt, decimal, All}
use Rattle.std.specs.Char.{is_ascii_digit}
use Rattle.std.specs.List.{list_all}
use Rattle.std.proofs.lemmas.Bool.{cases_lt, and_parts}
use Rattle.std.proofs.lemmas.Bool.Decides.{nat_tests}
use Rattle.std.proofs.lemmas.Fmt.{digits_decimal}
use Rattle.std.proofs.lemmas.List.Elements.{All-nil, All-cons, All-append}
use Rattle.std.proofs.lemmas.List.Folds.{list_all-append}
use Rattle.std.proofs.lemmas.List.Splits.{slice_split_at, slice_split_none}
use Rattle.hex.specs.Hex.{IsBytes, encode_upper, encode_with, upper_digits}
use Rattle.cip_words.specs.Shown.{is_space, is_dot, words_of}
use Rattle.cip_words.proofs.Back.{own}
use Rattle.cip_transcript.specs.Show.{bytes_text}
use Rattle.cip_transcript.specs.Back.{is_end}

-- the byte is a character, and no space
abbrev pub is_high : ℕ → Bool
is_high b = nat_lt 32 b

-- each byte is
abbrev pub IsWord : List ℕ → Type 0
IsWord w = list_all is_high w ≡ true

pub and_both : (a b : Bool) → a ≡ true → b ≡ true → (a && b) ≡ true
and_both a b h k = rw (h, k) refl

pub all_of : (q : ℕ → Bool) (P : ℕ → Type 0) → ((b : ℕ) → q b ≡ true → P b) → (w : List ℕ) → list_all q w ≡ true → All P w
all_of q P f [] h = All-nil P
all_of q P f (b ∷ w) h =
    let parts = and_parts (q b) (list_all q w) h in
    All-cons P b w (f b parts.0) (all_of q P f w parts.1)

pub all_pass : (p q : ℕ → Bool) → ((b : ℕ) → p b ≡ true → q b ≡ true) → (w : List ℕ) → list_all p w ≡ true → list_all q w ≡ true
all_pass p q f [] h = refl
all_pass p q f (b ∷ w) h =
    let parts = and_parts (p b) (list_all p w) h in
    and_both (q b) (list_all q w) (f b parts.0) (all_pass p q f w parts.1)

no_space : (b : ℕ) → is_high b ≡ true → is_space b ≡ false
no_space b h = grind (arith, nat_tests)

no_end : (b : ℕ) → is_high b ≡ true → is_end b ≡ false
no_end b h = grind (arith, nat_tests)

digit_high : (b : ℕ) → is_ascii_digit b ≡ true → is_high b ≡ true
digit_high b h = grind (arith, nat_tests)

digit_no_dot : (b : ℕ) → is_ascii_digit b ≡ true → is_dot b ≡ false
digit_no_dot b h = grind (arith, nat_tests)

-- ---- words

pub decimal_word : (n : ℕ) → n < 2 ^ 64 → IsWord (decimal n)
decimal_word n h = all_pass is_ascii_digit is_high digit_high (decimal n) (digits_decimal own n h)

pub decimal_no_dot : (n : ℕ) → n < 2 ^ 64 → All (λ b. is_dot b ≡ false) (decimal n)
decimal_no_dot n h = all_of is_ascii_digit (λ b. is_dot b ≡ false) digit_no_dot (decimal n) (digits_decimal own n h)

pub both_words : (v w : List ℕ) → IsWord v → IsWord w → IsWord (v ++ w)
both_words v w h k = list_all-append is_high v w ∙ and_both (list_all is_high v) (list_all is_high w) h k

-- the test of the first n digits of the table, which computes
abbrev are_high : List ℕ → ℕ → Bool
are_high t zero = true
are_high t (suc n) = is_high (slice_index t n) && are_high t n

high_at : (t : List ℕ) (n k : ℕ) → are_high t n ≡ true → k < n → is_high (slice_index t k) ≡ true
high_at t zero k h lt = absurd (omega arith)
high_at t (suc n) k h lt =
    let parts = and_parts (is_high (slice_index t n)) (are_high t n) h in
    elim (cases_lt k n) [
      | inl below ↦ high_at t n k parts.1 below
      | inr top ↦
          let e : k ≡ n = omega arith in
          rw e parts.0
    ]

digit_of : (d : ℕ) → d < 16 → is_high (slice_index upper_digits d) ≡ true
digit_of d h = high_at upper_digits 16 d refl h

head_byte : (b : ℕ) (rest : List ℕ) → IsBytes (b ∷ rest) → b < 256
head_byte b rest h = h 0

tail_bytes : (b : ℕ) (rest : List ℕ) → IsBytes (b ∷ rest) → IsBytes rest
tail_bytes b rest h i = h (suc i)

pub pairs_word : (bytes : List ℕ) → IsBytes bytes → IsWord (encode_upper bytes)
unfolding encode_with
pairs_word [] h = refl
pairs_word (b ∷ rest) h =
    let small : b < 256 = head_byte b rest h in
    let high : b / 16 < 16 = omega arith in
    let low : b % 16 < 16 = omega arith in
    let second : Bool = is_high (slice_index upper_digits (b % 16)) in
    let others : Bool = list_all is_high (encode_upper rest) in
    and_both (is_high (slice_index upper_digits (b / 16))) (second && others) (digit_of (b / 16) high)
    (and_both second others (digit_of (b % 16) low) (pairs_word rest (tail_bytes b rest h)))

pub bytes_word : (bytes : List ℕ) → IsBytes bytes → IsWord (bytes_text bytes)
bytes_word [] h = refl
bytes_word (b ∷ rest) h =
    let some : (length (b ∷ rest) == 0) ≡ false = grind (arith, nat_tests) in
    let is_pairs : bytes_text (b ∷ rest) ≡ encode_upper (b ∷ rest) = rw some refl in
    ap (list_all is_high) is_pairs ∙ pairs_word (b ∷ rest) h

-- ---- lines

-- a word, and others behind it, each behind a space
abbrev pub joined : List ℕ → List (List ℕ) → List ℕ
joined w [] = w
joined w (v ∷ vs) = w ++ 32 ∷ joined v vs

abbrev pub AreWords : List (List ℕ) → Type 0
AreWords [] = Unit {0}
AreWords (w ∷ ws) = IsWord w × AreWords ws

spaceless : (w : List ℕ) → IsWord w → All (λ b. is_space b ≡ false) w
spaceless w h = all_of is_high (λ b. is_space b ≡ false) no_space w h

endless : (w : List ℕ) → IsWord w → All (λ b. is_end b ≡ false) w
endless w h = all_of is_high (λ b. is_end b ≡ false) no_end w h

pub joined_parted : (w : List ℕ) (ws : List (List ℕ)) → IsWord w → AreWords ws → words_of (joined w ws) ≡ w ∷ ws
joined_parted w [] h k = slice_split_none is_space w (spaceless w h)
joined_parted w (v ∷ vs) h k = slice_split_at is_space w 32 (joined v vs) (spaceless w h) refl ∙ ap (λ l. w ∷ l) (joined_parted v vs k.0 k.1)

pub joined_endless : (w : List ℕ) (ws : List (List ℕ)) → IsWord w → AreWords ws → All (λ b. is_end b ≡ false) (joined w ws)
joined_endless w [] h k = endless w h
joined_endless w (v ∷ vs) h k =
    All-append (λ b. is_end b ≡ false) w (32 ∷ joined v vs) (endless w h)
    (All-cons (λ b. is_end b ≡ false) 32 (joined v vs) refl (joined_endless v vs k.0 k.1))

-- ---- pieces of a line, put together from the left

pub sp : (a c : List ℕ) → (a ++ 32 ∷ []) ++ c ≡ a ++ 32 ∷ c
sp a c = append_assoc a (32 ∷ []) c

pub two : (a b c : List ℕ) → ((a ++ 32 ∷ []) ++ b) ++ c ≡ a ++ 32 ∷ (b ++ c)
two a b c = append_assoc (a ++ 32 ∷ []) b c ∙ append_assoc a (32 ∷ []) (b ++ c)

pub three : (a b c : List ℕ) → (((a ++ 32 ∷ []) ++ b) ++ 32 ∷ []) ++ c ≡ a ++ 32 ∷ (b ++ 32 ∷ c)
three a b c = sp ((a ++ 32 ∷ []) ++ b) c ∙ two a b (32 ∷ c)

pub behind_three : (a b c d : List ℕ) → (a ++ 32 ∷ (b ++ 32 ∷ c)) ++ d ≡ a ++ 32 ∷ (b ++ 32 ∷ (c ++ d))
behind_three a b c d = append_assoc a (32 ∷ (b ++ 32 ∷ c)) d ∙ ap (λ x. a ++ 32 ∷ x) (append_assoc b (32 ∷ c) d)
