-- What is told of trails and chains shows no part of an entry.
use Rattle.std.proofs.Common.{◌≡◌, ℕ, ◌≤◌, ◌^◌, unwrap_or, ◌++◌, ◌∷◌, ◌==◌, ◌&&◌, if◌then◌else◌, Bool, List, [], length, None, Ok, Err, true, false, refl, ap}
use Rattle.std.proofs.Common.{◌∙◌, arith, inl, inr}
use Rattle.std.specs.Prelude.{codes, decimal, nat_lt, All, option_map}
use Rattle.std.specs.Char.{is_ascii_digit}
use Rattle.std.specs.List.{list_all, slice_split, onto_first}
use Rattle.std.proofs.lemmas.Bool.{cases_Bool}
use Rattle.std.proofs.lemmas.Bool.Decides.{nat_tests}
use Rattle.std.proofs.lemmas.List.Elements.{All-nil, All-cons, All-same}
use Rattle.std.proofs.lemmas.List.Folds.{list_all-append}
use Rattle.std.proofs.lemmas.List.Splits.{slice_split_at, slice_split-cons_no}
use Rattle.std.proofs.lemmas.Option.{slice_get_cases, slice_get-map, slice_get_past}
use Rattle.cip_base.specs.declared.numbers.ModuleId.{ModuleId}
use Rattle.cip_config.specs.declared.config.ModuleSettings.{ModuleSettings}
use Rattle.cip_chassis.specs.Plan.{Plan, IsTopology}
use Rattle.cip_words.specs.Shown.{is_space, words_of, below, number_of}
use Rattle.cip_words.proofs.Back.{not_digits}
use Rattle.cip_read.specs.Lines.{words_line, line_of, is_indented, is_head}
use Rattle.cip_chain.specs.declared.chains.ChainFault.TheVariants as chains
use Rattle.cip_transcript.specs.Chained.{Chained}
use Rattle.cip_transcript.specs.Show.{numbers_text, trail_text, names_text, names_of, name_of, chain_text}
use Rattle.cip_transcript.specs.Back.{is_end, ShowsNone}
use Rattle.cip_transcript.specs.Fits.{FitsNumbers, FitsChain}
use Rattle.cip_transcript.proofs.Words.{IsWord, is_high, all_of, all_pass, and_both, decimal_word}
use Rattle.cip_transcript.proofs.Outputs.{number_word}
use Rattle.cip_transcript.proofs.Heads.{name_is_word}

-- ---- a line has no end in it

abbrev is_inner : ℕ → Bool
is_inner b = if b == 10 then false else true

abbrev IsLine : List ℕ → Type 0
IsLine w = list_all is_inner w ≡ true

high_inner : (b : ℕ) → is_high b ≡ true → is_inner b ≡ true
high_inner b h =
    let e : (b == 10) ≡ false = grind (arith, nat_tests) in
    rw e refl

inner_no_end : (b : ℕ) → is_inner b ≡ true → is_end b ≡ false
inner_no_end b h = elim (cases_Bool (b == 10)) [
  | inl ends ↦
      let wrong : is_inner b ≡ false = rw ends refl in
      absurd cc
  | inr other ↦ other
]

word_line : (w : List ℕ) → IsWord w → IsLine w
word_line w h = all_pass is_high is_inner high_inner w h

both_lines : (v w : List ℕ) → IsLine v → IsLine w → IsLine (v ++ w)
both_lines v w h k = list_all-append is_inner v w ∙ and_both (list_all is_inner v) (list_all is_inner w) h k

endless : (w : List ℕ) → IsLine w → All (λ b. is_end b ≡ false) w
endless w h = all_of is_inner (λ b. is_end b ≡ false) inner_no_end w h

numbers_line : (ns : List ℕ) → FitsNumbers ns → IsLine (numbers_text ns)
numbers_line [] h = refl
numbers_line (n ∷ more) h = both_lines (32 ∷ decimal n) (numbers_text more) (word_line (decimal n) (decimal_word n h.0)) (numbers_line more h.1)

no_name : (t : Plan) (m : ℕ) → length t.modules ≤ m → name_of (names_of t) m ≡ []
no_name t m h =
    ap (λ o. unwrap_or o []) (slice_get-map (λ (c : ModuleSettings). c.name) t.modules m
    ∙ ap (option_map (λ (c : ModuleSettings). c.name)) (slice_get_past t.modules m h))

name_line : (t : Plan) → IsTopology t → (m : ModuleId) → IsLine (name_of (names_of t) m.0)
name_line t h m = elim (slice_get_cases t.modules m.0).1 [
  | inl found ↦ word_line (name_of (names_of t) m.0) (name_is_word t h m found.1)
  | inr past ↦ ap (list_all is_inner) (no_name t m.0 past.0)
]

names_line : (t : Plan) → IsTopology t → (ms : List ModuleId) → IsLine (names_text (names_of t) ms)
names_line t h [] = refl
names_line t h (m ∷ more) =
    both_lines (32 ∷ name_of (names_of t) m.0) (names_text (names_of t) more) (name_line t h m) (names_line t h more)

-- ---- a line that begins with a letter shows no part of an entry

some_bytes : (c : ℕ) (p : List ℕ) → (length (c ∷ p) == 0) ≡ false
some_bytes c p = grind (arith, nat_tests)

not_indented : (c : ℕ) (p : List ℕ) (ps : List (List ℕ)) → is_indented ((c ∷ p) ∷ ps) ≡ false
not_indented c p ps = elim (cases_Bool (nat_lt 3 (length ((c ∷ p) ∷ ps)))) [
  | inl long ↦ rw (long, some_bytes c p) refl
  | inr short ↦ rw short refl
]

no_number : (c : ℕ) (p : List ℕ) → is_ascii_digit c ≡ false → below (2 ^ 64) (number_of (c ∷ p)) ≡ None
no_number c p h = not_digits (c ∷ p) (ap (λ (x : Bool). x && list_all is_ascii_digit p) h)

not_head : (c : ℕ) (p : List ℕ) (ps : List (List ℕ)) → is_ascii_digit c ≡ false → is_head ((c ∷ p) ∷ ps) ≡ false
not_head c p ps h = elim (cases_Bool (nat_lt 0 (length ((c ∷ p) ∷ ps)))) [
  | inl some ↦ rw (some, no_number c p h) refl
  | inr none ↦ rw none refl
]

letter_words : (t : Plan) (c : ℕ) (p : List ℕ) (ps : List (List ℕ)) → is_ascii_digit c ≡ false → words_line t ((c ∷ p) ∷ ps) ≡ None
letter_words t c p ps h = rw (not_indented c p ps, not_head c p ps h) refl

first_none : (t : Plan) (c : ℕ) (parts : List (List ℕ)) → is_ascii_digit c ≡ false → words_line t (onto_first c parts) ≡ None
first_none t c [] h = letter_words t c [] [] h
first_none t c (p ∷ ps) h = letter_words t c p ps h

letter_none : (t : Plan) (c : ℕ) (more : List ℕ) → is_space c ≡ false → is_ascii_digit c ≡ false → line_of t (c ∷ more) ≡ None
unfolding line_of
letter_none t c more s d = ap (words_line t) (slice_split-cons_no is_space c more s) ∙ first_none t c (words_of more) d

empty_none : (t : Plan) → line_of t [] ≡ None
unfolding line_of number_of
empty_none t = refl

-- ---- texts

nothing : (t : Plan) → ShowsNone t []
nothing t = All-cons (λ line. line_of t line ≡ None) [] [] (empty_none t) (All-nil (λ line. line_of t line ≡ None))

one_line : (t : Plan) (line : List ℕ) → IsLine line → line_of t line ≡ None → ShowsNone t (line ++ 10 ∷ [])
one_line t line whole none =
    All-same (λ l. line_of t l ≡ None) _ _ (slice_split_at is_end line 10 [] (endless line whole) refl)
    (All-cons (λ l. line_of t l ≡ None) line (slice_split is_end []) none (nothing t))

pub trail_none : (t : Plan) (ns : List ℕ) → FitsNumbers ns → ShowsNone t (trail_text ns)
trail_none t ns h =
    one_line t (codes "trail" ++ numbers_text ns) (both_lines (codes "trail") (numbers_text ns) refl (numbers_line ns h))
    (letter_none t 116 (codes "rail" ++ numbers_text ns) refl refl)

pub chain_none : (t : Plan) → IsTopology t → (c : Chained) → FitsChain c → ShowsNone t (chain_text (names_of t) c)
chain_none t h (Ok view) fits =
    let names : List ℕ = names_text (names_of t) view.modules in
    let one : List ℕ = codes "chain" ++ names ++ codes " " in
    let two : List ℕ = one ++ decimal view.end.consume ++ codes " " in
    let first : IsLine one = both_lines (codes "chain" ++ names) (codes " ") (both_lines (codes "chain") names refl (names_line t h view.modules)) refl in
    let second : IsLine two = both_lines (one ++ decimal view.end.consume) (codes " ")
    (both_lines one (decimal view.end.consume) first (word_line (decimal view.end.consume) (number_word view.end.consume fits.0))) refl in
    one_line t (two ++ decimal view.end.produce)
    (both_lines two (decimal view.end.produce) second (word_line (decimal view.end.produce) (number_word view.end.produce fits.1)))
    (letter_none t 99 (codes "hain" ++ names ++ codes " " ++ decimal view.end.consume ++ codes " " ++ decimal view.end.produce) refl refl)
chain_none t h (Err chains.NotOpen) fits = one_line t (codes "not open") refl (letter_none t 110 (codes "ot open") refl refl)
chain_none t h (Err (chains.Broken m)) fits =
    one_line t (codes "broken " ++ name_of (names_of t) m.0) (both_lines (codes "broken ") (name_of (names_of t) m.0) refl (name_line t h m))
    (letter_none t 98 (codes "roken " ++ name_of (names_of t) m.0) refl refl)
chain_none t h (Err chains.NoMemory) fits = nothing t
