-- Words, one space at a time.
use Rattle.std.proofs.Common.{◌≡◌, ◌≢◌, ℕ, ◌+◌, ◌-◌, ◌<◌, ◌≤◌, ◌==◌, false, List, [], ◌∷◌, ◌++◌, length, get_or, take, drop, refl, sym, ap, ◌∙◌, arith, inl}
use Rattle.std.proofs.Common.{inr, append_assoc, rules, length-take, length-drop}
use Rattle.std.specs.List.{All, slice_split}
use Rattle.std.proofs.lemmas.Bool.{cases_Bool, cases_lt}
use Rattle.std.proofs.lemmas.Bool.Decides.{nat_tests}
use Rattle.std.proofs.lemmas.List.{drop_more, drop-drop, take-append-drop, places, get_or_default, take_all}
use Rattle.std.proofs.lemmas.List.Splits.{slice_split_at, slice_split_none}
use Rattle.cip_script.specs.Text.{is_space, kept_words, words_of}

-- no space stands from one place up to another
abbrev pub NoSpace : List ℕ → ℕ → ℕ → Type 0
NoSpace bs start end = (k : ℕ) → start ≤ k → k < end → get_or bs k 0 ≢ 32

kept_first : (x : List ℕ) (rest : List (List ℕ)) → kept_words (x ∷ rest) ≡ kept_words (x ∷ []) ++ kept_words rest
kept_first x rest = elim (cases_Bool (length x == 0)) [ inl empty ↦ rw empty refl | inr some ↦ rw some refl ]

other : (b : ℕ) → b ≢ 32 → is_space b ≡ false
other b h = grind (arith, nat_tests)

none_within : (bs : List ℕ) (start n : ℕ) → start + n ≤ length bs → NoSpace bs start (start + n) → All (λ b. is_space b ≡ false) (take n (drop start bs))
none_within bs start n h none k d within =
    let in_n : k < n = omega (arith, length-take n (drop start bs)) in
    let plain : get_or (take n (drop start bs)) k d ≡ get_or bs (start + k) d = search (rules, places) in
    let default : get_or bs (start + k) d ≡ get_or bs (start + k) 0 = get_or_default bs (start + k) d 0 (omega arith) in
    ap is_space (plain ∙ default) ∙ other _ (none (start + k) (omega arith) (omega arith))

pub word_at : (bs : List ℕ) (start i : ℕ) → start ≤ i → i < length bs → NoSpace bs start i → get_or bs i 0 ≡ 32
    → words_of (drop start bs) ≡ kept_words (take (i - start) (drop start bs) ∷ []) ++ words_of (drop (i + 1) bs)
word_at bs start i h k none space =
    let n : ℕ = i - start in
    let sum : start + n ≡ i = omega arith in
    let first : List ℕ = take n (drop start bs) in
    let rest : List ℕ = drop (i + 1) bs in
    let behind : drop n (drop start bs) ≡ 32 ∷ rest =
    drop-drop n start bs ∙ ap (λ (j : ℕ). drop j bs) sum ∙ drop_more bs i 0 k ∙ ap (λ (b : ℕ). b ∷ rest) space in
    let parts : drop start bs ≡ first ++ 32 ∷ rest = sym (take-append-drop n (drop start bs)) ∙ ap (λ (l : List ℕ). first ++ l) behind in
    let split : slice_split is_space (drop start bs) ≡ first ∷ slice_split is_space rest =
    ap (slice_split is_space) parts ∙ slice_split_at is_space first 32 rest (none_within bs start n (omega arith) (λ j lo hi. none j lo (omega arith))) refl in
    ap kept_words split ∙ kept_first first (slice_split is_space rest)

pub word_last : (bs : List ℕ) (start : ℕ) → start ≤ length bs → NoSpace bs start (length bs) → words_of (drop start bs) ≡ kept_words (drop start bs ∷ [])
word_last bs start h none =
    let n : ℕ = length bs - start in
    let sum : start + n ≡ length bs = omega arith in
    let whole : take n (drop start bs) ≡ drop start bs = take_all n (drop start bs) (omega (arith, length-drop start bs)) in
    let all : All (λ b. is_space b ≡ false) (take n (drop start bs)) = none_within bs start n (omega arith) (λ k lo hi. none k lo (omega arith)) in
    ap kept_words (slice_split_none is_space (drop start bs) (rw whole at all))

pub none_more : (bs : List ℕ) (start i : ℕ) → NoSpace bs start i → get_or bs i 0 ≢ 32 → NoSpace bs start (i + 1)
none_more bs start i none here k lo hi = elim (cases_lt k i) [
  | inl below ↦ none k lo below
  | inr top ↦ let e : k ≡ i = omega arith in rw e here
]

-- a word more, at the space behind it
pub word_more : (bs : List ℕ) (found more : List (List ℕ)) (start i : ℕ) (word : List ℕ) → start ≤ i → i < length bs → NoSpace bs start i
    → get_or bs i 0 ≡ 32 → word ≡ take (i - start) (drop start bs) → more ≡ found ++ kept_words (word ∷ [])
    → found ++ words_of (drop start bs) ≡ words_of bs → more ++ words_of (drop (i + 1) bs) ≡ words_of bs
word_more bs found more start i word h k none space is_word is_more inv =
    let all : List (List ℕ) = words_of bs in
    let rest : List (List ℕ) = words_of (drop (i + 1) bs) in
    let at : words_of (drop start bs) ≡ kept_words (word ∷ []) ++ rest =
    word_at bs start i h k none space ∙ ap (λ (l : List ℕ). kept_words (l ∷ []) ++ rest) (sym is_word) in
    ap (λ (l : List (List ℕ)). l ++ rest) is_more ∙ append_assoc found (kept_words (word ∷ [])) rest ∙ ap (λ (l : List (List ℕ)). found ++ l) (sym at) ∙ inv

-- the last word
pub word_end : (bs : List ℕ) (found more : List (List ℕ)) (start : ℕ) (word : List ℕ) → start ≤ length bs → NoSpace bs start (length bs)
    → word ≡ drop start bs → more ≡ found ++ kept_words (word ∷ []) → found ++ words_of (drop start bs) ≡ words_of bs → more ≡ words_of bs
word_end bs found more start word h none is_word is_more inv =
    let at : words_of (drop start bs) ≡ kept_words (word ∷ []) = word_last bs start h none ∙ ap (λ (l : List ℕ). kept_words (l ∷ [])) (sym is_word) in
    is_more ∙ ap (λ (l : List (List ℕ)). found ++ l) (sym at) ∙ inv
