-- Lines, one part at a time.
use Rattle.std.proofs.Common.{◌≡◌, ℕ, ◌<◌, ◌≤◌, ◌+◌, true, false, List, [], ◌∷◌, ◌++◌, map, length, get_or, drop, refl, ap, arith, ◌==◌, append_assoc}
use Rattle.std.proofs.Common.{append-nil, Bor, take, sym, ◌∙◌, length-take, take-append-drop, take_all, get_or-take}
use Rattle.std.specs.List.{All, slice_split}
use Rattle.std.specs.Str.Lines.{lines, lines_of_parts, strip_carriage_return}
use Rattle.std.proofs.lemmas.Bool.Decides.{nat_tests}
use Rattle.std.proofs.lemmas.List.{drop_more, drop_all}
use Rattle.std.proofs.lemmas.List.Elements.{All-from_get_or}
use Rattle.std.proofs.lemmas.List.Splits.{slice_split_at, slice_split_none, length-slice_split}
use Rattle.cip_words.specs.Shown.{is_newline, HasNoNewline}

-- what references lead to
abbrev pub texts : List (Bor (List ℕ)) → List (List ℕ)
texts = map (λ part. part.now)

-- what stands past the end
abbrev pub unread : Bor (List ℕ)
unread = record { ref_ptr = (0, 0); now = [] }

pub texts_push : (xs : List (Bor (List ℕ))) (x : Bor (List ℕ)) → texts (xs ++ x ∷ []) ≡ texts xs ++ x.now ∷ []
texts_push [] x = refl
texts_push (y ∷ xs) x = ap (λ l. y.now ∷ l) (texts_push xs x)

-- a part before another one
pub line_more : (items found : List (Bor (List ℕ))) (i : ℕ) (y : Bor (List ℕ)) (all : List (List ℕ)) → i + 1 < length items
    → y.now ≡ strip_carriage_return (get_or items i unread).now
    → texts found ++ lines_of_parts (texts (drop i items)) ≡ all → texts (found ++ y ∷ []) ++ lines_of_parts (texts (drop (i + 1) items)) ≡ all
line_more items found i y all h stripped e =
    let i_in : i < length items = omega arith in
    let before = rw (drop_more items i unread i_in, drop_more items (i + 1) unread h) at e in
    rw (texts_push found y, append_assoc, stripped, drop_more items (i + 1) unread h) before

-- the last part
pub line_last : (items found : List (Bor (List ℕ))) (i : ℕ) (all : List (List ℕ)) → i < length items → length items ≤ i + 1
    → (length (get_or items i unread).now == 0) ≡ false
    → texts found ++ lines_of_parts (texts (drop i items)) ≡ all
    → texts (found ++ get_or items i unread ∷ []) ++ lines_of_parts (texts (drop (i + 1) items)) ≡ all
line_last items found i all h last full e =
    let before = rw (drop_more items i unread h, drop_all (i + 1) items last, full) at e in
    rw (texts_push found (get_or items i unread), drop_all (i + 1) items last, append-nil) before

pub line_none : (items found : List (Bor (List ℕ))) (i : ℕ) (all : List (List ℕ)) → i < length items → length items ≤ i + 1
    → (length (get_or items i unread).now == 0) ≡ true
    → texts found ++ lines_of_parts (texts (drop i items)) ≡ all → texts found ++ lines_of_parts (texts (drop (i + 1) items)) ≡ all
line_none items found i all h last empty e =
    let before = rw (drop_more items i unread h, drop_all (i + 1) items last, empty) at e in
    rw (drop_all (i + 1) items last) before

plain_front : (bs : List ℕ) (n : ℕ) → n ≤ length bs → HasNoNewline bs n → All (λ b. is_newline b ≡ false) (take n bs)
plain_front bs n h none =
    All-from_get_or (λ b. is_newline b ≡ false) (take n bs) 0
    (λ k within.
    let lt : k < n = omega (arith, length-take n bs) in
    rw (get_or-take n bs k 0 lt) (none k lt))

more_lines : (x : List ℕ) (parts : List (List ℕ)) → 0 < length parts → lines_of_parts (x ∷ parts) ≡ strip_carriage_return x ∷ lines_of_parts parts
more_lines x [] h = absurd (omega arith)
more_lines x (y ∷ more) h = refl

-- the line before the first newline
pub line_first : (bs : List ℕ) (n : ℕ) → n < length bs → HasNoNewline bs n → (get_or bs n 0 == 10) ≡ true
    → lines bs ≡ strip_carriage_return (take n bs) ∷ lines (drop (n + 1) bs)
line_first bs n h none at =
    let rest : List ℕ = drop (n + 1) bs in
    let behind : drop n bs ≡ get_or bs n 0 ∷ rest = drop_more bs n 0 h in
    let parted : bs ≡ take n bs ++ get_or bs n 0 ∷ rest = sym (take-append-drop n bs) ∙ ap (λ (l : List ℕ). take n bs ++ l) behind in
    let plain : All (λ b. is_newline b ≡ false) (take n bs) = plain_front bs n (omega arith) none in
    ap lines parted ∙ ap lines_of_parts (slice_split_at is_newline (take n bs) (get_or bs n 0) rest plain at)
    ∙ more_lines (take n bs) (slice_split is_newline rest) (omega (arith, length-slice_split is_newline rest))

-- a line without a newline behind it
pub line_alone : (bs : List ℕ) → 0 < length bs → HasNoNewline bs (length bs) → lines bs ≡ bs ∷ []
line_alone bs some none =
    let whole : take (length bs) bs ≡ bs = take_all (length bs) bs (omega arith) in
    let plain : All (λ b. is_newline b ≡ false) (take (length bs) bs) = plain_front bs (length bs) (omega arith) none in
    let full : (length bs == 0) ≡ false = grind (arith, nat_tests) in
    ap lines_of_parts (slice_split_none is_newline bs (rw whole at plain)) ∙ rw full refl
