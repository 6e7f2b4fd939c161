-- A line is parted at each of its spaces.
use Rattle.std.proofs.Common.{◌≡◌, ℕ, Bool, ◌+◌, ◌-◌, ◌≤◌, ◌<◌, List, [], ◌∷◌, ◌++◌, length, take, drop, get_or, true, false, None, Some, refl, sym, ◌∙◌, ap}
use Rattle.std.proofs.Common.{arith}
use Rattle.std.proofs.lemmas.List.{take-append-drop, drop-drop, drop_more, get_or-drop, get_or-take, length-take, length-drop}
use Rattle.std.proofs.lemmas.List.Elements.{All-from_get_or}
use Rattle.std.proofs.lemmas.List.Splits.{slice_split_at, slice_split_none, slice_split_first, length-slice_split}
use Rattle.std.proofs.lemmas.List.Sums.{fails_before_first}
use Rattle.std.specs.List.{slice_split, All, position_or_len, before_first, after_first}
use Rattle.cip_words.specs.Shown.{is_space, is_dot, two_of, halves_of}

-- no space from one place up to another
abbrev pub NoSpace : List ℕ → ℕ → ℕ → Type 0
NoSpace line start end = (k : ℕ) → start ≤ k → k < end → is_space (get_or line k 0) ≡ false

are_plain : (line : List ℕ) (start n : ℕ) → NoSpace line start (start + n)
    → All (λ x. is_space x ≡ false) (take n (drop start line))
are_plain line start n none =
    All-from_get_or (λ x. is_space x ≡ false) (take n (drop start line)) 0
    (λ j h.
    let lt : j < n = omega (arith, length-take n (drop start line)) in
    let a = get_or-take n (drop start line) j 0 lt in
    let b = get_or-drop start line j 0 in
    let plain = none (start + j) (omega arith) (omega arith) in
    rw (a, b) plain)

-- the word before a space, and the words behind it
pub split_step : (line : List ℕ) (start i : ℕ) → start ≤ i → i < length line → NoSpace line start i → is_space (get_or line i 0) ≡ true
    → slice_split is_space (drop start line) ≡ take (i - start) (drop start line) ∷ slice_split is_space (drop (i + 1) line)
split_step line start i le h none is =
    let n : ℕ = i - start in
    let e : start + (i - start) ≡ i = omega arith in
    let plain = are_plain line start (i - start) (λ k a b. none k a (omega arith)) in
    let back : drop (i - start) (drop start line) ≡ drop i line = rw e at (drop-drop (i - start) start line) in
    let more = drop_more line i 0 h in
    let whole = take-append-drop (i - start) (drop start line) in
    let parted = slice_split_at is_space (take (i - start) (drop start line)) (get_or line i 0) (drop (i + 1) line) plain is in
    let same : take (i - start) (drop start line) ++ get_or line i 0 ∷ drop (i + 1) line ≡ drop start line =
    rw (back, more) at whole in
    ap (slice_split is_space) (sym same) ∙ parted

-- the last word
pub split_last : (line : List ℕ) (start : ℕ) → start ≤ length line → NoSpace line start (length line)
    → slice_split is_space (drop start line) ≡ drop start line ∷ []
split_last line start le none =
    slice_split_none is_space (drop start line)
    (All-from_get_or (λ x. is_space x ≡ false) (drop start line) 0
    (λ j h.
    let lt : start + j < length line = omega (arith, length-drop start line) in
    rw (get_or-drop start line j 0) (none (start + j) (omega arith) lt)))

none_passes : (p : ℕ → Bool) (xs : List ℕ) → position_or_len p xs ≡ length xs → slice_split p xs ≡ xs ∷ []
none_passes p xs e =
    slice_split_none p xs (All-from_get_or (λ x. p x ≡ false) xs 0 (λ j h. fails_before_first p xs j 0 (omega (arith, e))))

more_parts : (a b : List ℕ) (cs : List (List ℕ)) → 0 < length cs → two_of (a ∷ b ∷ cs) ≡ None
more_parts a b [] h = absurd (omega arith)
more_parts a b (c ∷ cs) h = refl

-- a word without a dot
pub halves_without : (w : List ℕ) → position_or_len is_dot w ≡ length w → halves_of w ≡ None
halves_without w e = rw (none_passes is_dot w e) refl

-- a word with two dots or more
pub halves_with_more : (w : List ℕ) → position_or_len is_dot w < length w
    → position_or_len is_dot (after_first is_dot w) < length (after_first is_dot w) → halves_of w ≡ None
halves_with_more w one two =
    let rest : List ℕ = after_first is_dot w in
    let last : List ℕ = after_first is_dot rest in
    rw (slice_split_first is_dot w 0 one, slice_split_first is_dot rest 0 two)
    (more_parts (before_first is_dot w) (before_first is_dot rest) (slice_split is_dot last) (omega (arith, length-slice_split is_dot last)))

-- a word with one dot
pub halves_with_one : (w : List ℕ) → position_or_len is_dot w < length w
    → position_or_len is_dot (after_first is_dot w) ≡ length (after_first is_dot w)
    → halves_of w ≡ Some (before_first is_dot w, after_first is_dot w)
halves_with_one w one none =
    rw (slice_split_first is_dot w 0 one, none_passes is_dot (after_first is_dot w) none) refl
