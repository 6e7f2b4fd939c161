-- Steps, one line at a time.
use Rattle.std.proofs.Common.{lit<, ◌≡◌, ℕ, ◌<◌, ◌+◌, true, List, [], ◌∷◌, ◌++◌, length, get_or, drop, refl, sym, ap, arith, ◌==◌, if◌then◌else◌, append_assoc}
use Rattle.std.proofs.Common.{append-nil, Bor, Some, None, Result, Ok, Err, inl, inr, zero, suc}
use Rattle.std.specs.Prelude.{nat_lt, slice_index}
use Rattle.std.specs.List.{list_all}
use Rattle.std.specs.Str.{IsAscii}
use Rattle.std.proofs.lemmas.Bool.{cases_Bool, and_parts}
use Rattle.std.proofs.lemmas.Bool.Decides.{nat_tests}
use Rattle.std.proofs.lemmas.List.{drop_more}
use Rattle.cip_script.specs.declared.steps.ScriptFault.{ScriptFault}
use Rattle.cip_script.specs.declared.steps.ScriptFault.TheVariants.{NotText}
use Rattle.cip_script.specs.declared.steps.Mode.{Mode}
use Rattle.cip_script.specs.declared.steps.Step.{Step}
use Rattle.cip_script.specs.declared.steps.Numbered.{Numbered}
use Rattle.cip_script.specs.Steps.{texts, line_step, words_step, with_step, steps_from}
use Rattle.cip_script.specs.Text.{words_of}
use Rattle.cip_words.proofs.LinesLaws.{unread}

low : (b : ℕ) → b < 128 → nat_lt b 128 ≡ true
low b h = grind (arith, nat_tests)

low_of : (b : ℕ) → nat_lt b 128 ≡ true → b < 128
low_of b h = grind (arith, nat_tests)

pub ascii_all : (bs : List ℕ) → IsAscii bs → list_all (λ b. nat_lt b 128) bs ≡ true
ascii_all [] h = refl
ascii_all (b ∷ bs) h = rw (low b (h 0), ascii_all bs (λ i. h (suc i)))

pub all_ascii : (bs : List ℕ) → list_all (λ b. nat_lt b 128) bs ≡ true → IsAscii bs
all_ascii [] h i = lit< tt
all_ascii (b ∷ bs) h zero = low_of b (and_parts _ _ h).0
all_ascii (b ∷ bs) h (suc i) = all_ascii bs (and_parts _ _ h).1 i

pub step-of_text : (mode : Mode) (names : List (List ℕ)) (line : List ℕ) → IsAscii line
    → line_step mode names line ≡ (if slice_index line 0 == 35 then Ok None else words_step mode names (words_of line))
unfolding line_step
step-of_text mode names line h = rw (ascii_all line h) refl

pub step-of_other : (mode : Mode) (names : List (List ℕ)) (line : List ℕ) → (IsAscii line → ⊥) → line_step mode names line ≡ Err NotText
unfolding line_step
step-of_other mode names line h = elim (cases_Bool (list_all (λ b. nat_lt b 128) line)) [
  | inl is_text ↦ absurd (h (all_ascii line is_text))
  | inr is_other ↦ rw is_other refl
]

pub ruleset step_laws = (step-of_text, step-of_other)

abbrev pub Steps : Type 0
Steps = Result (List Numbered) (ℕ × ScriptFault)

-- some steps before others
abbrev pub before : List Numbered → Steps → Steps
before front (Ok more) = Ok (front ++ more)
before front (Err fault) = Err fault

pub before_nothing : (front : List Numbered) → before front (Ok []) ≡ Ok front
before_nothing front = ap Ok (append-nil front)

pub nothing_before : (rest : Steps) → before [] rest ≡ rest
nothing_before (Ok more) = refl
nothing_before (Err fault) = refl

pub before_one : (front : List Numbered) (n : ℕ) (step : Step) (rest : Steps)
    → before front (with_step n (Ok (Some step)) rest) ≡ before (front ++ record { line = n; step = step } ∷ []) rest
before_one front n step (Ok more) = ap Ok (sym (append_assoc front (record { line = n; step = step } ∷ []) more))
before_one front n step (Err fault) = refl

-- the line at i, and those after it
pub line_at : (mode : Mode) (names : List (List ℕ)) (items : List (Bor (List ℕ))) (i : ℕ) → i < length items
    → steps_from mode names (i + 1) (texts (drop i items)) ≡ with_step (i + 1) (line_step mode names (get_or items i unread).now)
    (steps_from mode names (i + 1 + 1) (texts (drop (i + 1) items)))
line_at mode names items i h = rw (drop_more items i unread h) refl
