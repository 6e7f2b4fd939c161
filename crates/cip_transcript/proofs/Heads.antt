-- The line of an entry is read as what its module was given.
use Rattle.std.proofs.Common.{◌≡◌, ℕ, ◌<◌, ◌≤◌, ◌^◌, ◌++◌, ◌∷◌, ◌==◌, if◌then◌else◌, List, [], length, get_or, unwrap_or, Some, None, true, false, refl, ap}
use Rattle.std.proofs.Common.{◌∙◌, arith, append_assoc, inl, inr}
use Rattle.std.specs.Prelude.{codes, decimal, slice_get, option_map, nat_le, nat_lt}
use Rattle.std.specs.List.{position, position_or_len, slice_split, list_all}
use Rattle.std.specs.Str.{bytes_eq}
use Rattle.std.proofs.lemmas.Bool.{cases_Bool, and_parts}
use Rattle.std.proofs.lemmas.Bool.Decides.{nat_tests}
use Rattle.std.proofs.lemmas.Fmt.{decimal_nonempty}
use Rattle.std.proofs.lemmas.List.Splits.{slice_split_at, slice_split_none}
use Rattle.std.proofs.lemmas.List.Sums.{position_or_len_is}
use Rattle.std.proofs.lemmas.Option.{slice_get-map, slice_get-get_or, slice_get_cases}
use Rattle.std.proofs.lemmas.Slice.Eq.{bytes_eq-Decides}
use Rattle.cip_base.specs.declared.numbers.ModuleId.{ModuleId}
use Rattle.cip_config.specs.declared.config.ModuleSettings.{ModuleSettings}
use Rattle.cip_config.specs.Config.{is_name, is_name_byte, is_settings}
use Rattle.cip_event.specs.declared.event.Command.TheVariants as commands
use Rattle.cip_chassis.specs.Plan.{Plan, IsTopology}
use Rattle.cip_words.specs.Shown.{is_dot, below}
use Rattle.cip_read.specs.Fields.{◌>>=◌, if_positive, frame_by, frame_of, module_of, ms_of}
use Rattle.cip_read.specs.Heads.{given_of}
use Rattle.cip_read.specs.Lines.{words_line, line_of}
use Rattle.cip_read.specs.declared.line.Line.TheVariants as lines
use Rattle.cip_event.specs.declared.frame.FrameName.{FrameName}
use Rattle.cip_world.specs.declared.journal.Input.{Input}
use Rattle.cip_world.specs.declared.journal.Input.TheVariants as inputs
use Rattle.cip_transcript.specs.Show.{head_text, lost_text, input_text, frame_text, name_of, names_of}
use Rattle.cip_transcript.specs.Back.{input_shown}
use Rattle.cip_transcript.specs.Fits.{FitsInput, FitsName}
use Rattle.cip_transcript.proofs.Words.{IsWord, all_pass, is_high, decimal_word, decimal_no_dot, both_words, joined, joined_parted, three}
use Rattle.cip_transcript.proofs.Outputs.{n64, n32, n16, positive, number_word, small_word}

-- ---- the words of what a module was given

abbrev pub word_of : Input → List ℕ
word_of (inputs.Command (commands.Open op timing path params)) = codes "open"
word_of (inputs.Command (commands.LargeOpen op timing path params)) = codes "large"
word_of (inputs.Command (commands.Close op of timing)) = codes "close"
word_of (inputs.Command (commands.Enter of bytes)) = codes "enter"
word_of (inputs.Command (commands.Set instance bytes)) = codes "set"
word_of (inputs.Command (commands.Produce instance)) = codes "produce"
word_of (inputs.Command (commands.Send op timing path asked)) = codes "send"
word_of (inputs.Tick ms) = codes "tick"
word_of (inputs.Frame port from f) = codes "frame"

abbrev pub number_text : Input → List ℕ
number_text (inputs.Command (commands.Open op timing path params)) = decimal op
number_text (inputs.Command (commands.LargeOpen op timing path params)) = decimal op
number_text (inputs.Command (commands.Close op of timing)) = decimal op
number_text (inputs.Command (commands.Enter of bytes)) = decimal of
number_text (inputs.Command (commands.Set instance bytes)) = decimal instance
number_text (inputs.Command (commands.Produce instance)) = decimal instance
number_text (inputs.Command (commands.Send op timing path asked)) = decimal op
number_text (inputs.Tick ms) = decimal ms
number_text (inputs.Frame port from f) = frame_text f

-- what is shown of an input is its two words
pub input_joined : (input : Input) → input_text input ≡ word_of input ++ 32 ∷ number_text input
input_joined (inputs.Command (commands.Open op timing path params)) = refl
input_joined (inputs.Command (commands.LargeOpen op timing path params)) = refl
input_joined (inputs.Command (commands.Close op of timing)) = refl
input_joined (inputs.Command (commands.Enter of bytes)) = refl
input_joined (inputs.Command (commands.Set instance bytes)) = refl
input_joined (inputs.Command (commands.Produce instance)) = refl
input_joined (inputs.Command (commands.Send op timing path asked)) = refl
input_joined (inputs.Tick ms) = refl
input_joined (inputs.Frame port from f) = refl

pub head_joined : (k : ℕ) (name : List ℕ) (input : Input)
    → head_text k name (input_text input) ≡ joined (decimal k) (name ∷ word_of input ∷ number_text input ∷ []) ++ 10 ∷ []
head_joined k name input =
    ap (λ x. x ++ 10 ∷ [])
    (three (decimal k) name (input_text input) ∙ ap (λ x. decimal k ++ 32 ∷ (name ++ 32 ∷ x)) (input_joined input))

pub lost_joined : (k : ℕ) (f : FrameName) → lost_text k f ≡ joined (decimal k) (codes "lost" ∷ frame_text f ∷ []) ++ 10 ∷ []
lost_joined k f = ap (λ x. x ++ 10 ∷ []) (append_assoc (decimal k) (codes " lost ") (frame_text f))

frame_joined : (f : FrameName) → frame_text f ≡ decimal f.entry ++ 46 ∷ decimal f.output
frame_joined f = append_assoc (decimal f.entry) (46 ∷ []) (decimal f.output)

-- ---- they are words

pub frame_word : (f : FrameName) → FitsName f → IsWord (frame_text f)
frame_word f h =
    ap (list_all is_high) (frame_joined f)
    ∙ both_words (decimal f.entry) (46 ∷ decimal f.output) (decimal_word f.entry h.0) (decimal_word f.output h.1)

pub input_is_word : (input : Input) → IsWord (word_of input)
input_is_word (inputs.Command (commands.Open op timing path params)) = refl
input_is_word (inputs.Command (commands.LargeOpen op timing path params)) = refl
input_is_word (inputs.Command (commands.Close op of timing)) = refl
input_is_word (inputs.Command (commands.Enter of bytes)) = refl
input_is_word (inputs.Command (commands.Set instance bytes)) = refl
input_is_word (inputs.Command (commands.Produce instance)) = refl
input_is_word (inputs.Command (commands.Send op timing path asked)) = refl
input_is_word (inputs.Tick ms) = refl
input_is_word (inputs.Frame port from f) = refl

pub number_is_word : (input : Input) → FitsInput input → IsWord (number_text input)
number_is_word (inputs.Command (commands.Open op timing path params)) h = number_word op h
number_is_word (inputs.Command (commands.LargeOpen op timing path params)) h = number_word op h
number_is_word (inputs.Command (commands.Close op of timing)) h = number_word op h
number_is_word (inputs.Command (commands.Enter of bytes)) h = number_word of h
number_is_word (inputs.Command (commands.Set instance bytes)) h = number_word instance h
number_is_word (inputs.Command (commands.Produce instance)) h = number_word instance h
number_is_word (inputs.Command (commands.Send op timing path asked)) h = number_word op h
number_is_word (inputs.Tick ms) h = small_word ms h.1
number_is_word (inputs.Frame port from f) h = frame_word f h

-- ---- they are read

frame_parts : (f : FrameName) → FitsName f → slice_split is_dot (frame_text f) ≡ decimal f.entry ∷ decimal f.output ∷ []
frame_parts f h =
    ap (slice_split is_dot) (frame_joined f)
    ∙ (slice_split_at is_dot (decimal f.entry) 46 (decimal f.output) (decimal_no_dot f.entry h.0) refl
    ∙ ap (λ l. decimal f.entry ∷ l) (slice_split_none is_dot (decimal f.output) (decimal_no_dot f.output h.1)))

parts_back : (f : FrameName) → FitsName f → frame_by (decimal f.entry ∷ decimal f.output ∷ []) ≡ Some f
parts_back f h = rw (n64 f.entry h.0, n64 f.output h.1) refl

pub frame_back : (f : FrameName) → FitsName f → frame_of (frame_text f) ≡ Some f
frame_back f h = ap frame_by (frame_parts f h) ∙ parts_back f h

ms_back : (ms : ℕ) → 1 ≤ ms → ms < 2 ^ 16 → ms_of (decimal ms) ≡ Some ms
ms_back ms one h =
    ap (λ o. o >>= if_positive) (n16 ms h) ∙ positive ms one

pub given_back : (input : Input) → FitsInput input → given_of (word_of input) (number_text input) ≡ Some (input_shown input)
given_back (inputs.Command (commands.Open op timing path params)) h = rw (n32 op h) refl
given_back (inputs.Command (commands.LargeOpen op timing path params)) h = rw (n32 op h) refl
given_back (inputs.Command (commands.Close op of timing)) h = rw (n32 op h) refl
given_back (inputs.Command (commands.Enter of bytes)) h = rw (n32 of h) refl
given_back (inputs.Command (commands.Set instance bytes)) h = rw (n32 instance h) refl
given_back (inputs.Command (commands.Produce instance)) h = rw (n32 instance h) refl
given_back (inputs.Command (commands.Send op timing path asked)) h = rw (n32 op h) refl
given_back (inputs.Tick ms) h = rw (ms_back ms h.0 h.1) refl
given_back (inputs.Frame port from f) h = rw (frame_back f h) refl

-- ---- the module

differ : (a b : List ℕ) → (a ≡ b → ⊥) → bytes_eq a b ≡ false
differ a b k = elim (cases_Bool (bytes_eq a b)) [
  | inl same ↦ absurd (k ((bytes_eq-Decides a b).0 same))
  | inr other ↦ other
]

same : (a : List ℕ) → bytes_eq a a ≡ true
same a = (bytes_eq-Decides a a).1 refl

-- the module at a place, where there is one
pub record Seat (t : Plan) (m : ℕ) : Type 0 where
  pub config : ModuleSettings
  pub at : slice_get t.modules m ≡ Some config
  pub held : get_or t.modules m config ≡ config

pub seat : (t : Plan) (m : ℕ) → m < length t.modules → Seat t m
seat t m h = elim (slice_get_cases t.modules m).1 [
  | inl found ↦ record { config = found.0; at = found.2; held = found.3 }
  | inr past ↦ absurd (let e = past.0 in omega arith)
]

others : (t : Plan) → IsTopology t → (m : ℕ) → m < length t.modules → (s : Seat t m) → (k : ℕ) → k < m
    → bytes_eq (get_or t.modules k s.config).name s.config.name ≡ false
others t h m lt s k below =
    let here : k < length t.modules = omega arith in
    let at : slice_get t.modules k ≡ Some (get_or t.modules k s.config) = slice_get-get_or t.modules k s.config here in
    differ (get_or t.modules k s.config).name s.config.name (λ e.
    let one : k ≡ m = h.names k m (get_or t.modules k s.config) s.config at s.at e in omega arith)

placed : (t : Plan) → IsTopology t → (m : ℕ) → m < length t.modules → (s : Seat t m)
    → position_or_len (λ c. bytes_eq c.name s.config.name) t.modules ≡ m
placed t h m lt s =
    position_or_len_is (λ c. bytes_eq c.name s.config.name) t.modules m s.config (omega arith)
    (others t h m lt s)
    (λ _. ap (λ (c : ModuleSettings). bytes_eq c.name s.config.name) s.held ∙ same s.config.name)

found_at : (n m : ℕ) → n < m → (if nat_lt n m then Some n else None) ≡ Some n
found_at n m h =
    let e : nat_lt n m ≡ true = grind (arith, nat_tests) in
    rw e refl

seated : (t : Plan) → IsTopology t → (m : ℕ) → m < length t.modules → (s : Seat t m)
    → position (λ c. bytes_eq c.name s.config.name) t.modules ≡ Some m
seated t h m lt s =
    let e = placed t h m lt s in
    ap (λ (i : ℕ). if nat_lt i (length t.modules) then Some i else None) e ∙ found_at m (length t.modules) lt

name_at : (t : Plan) (m : ℕ) (s : Seat t m) → name_of (names_of t) m ≡ s.config.name
name_at t m s = ap (λ o. unwrap_or o []) (slice_get-map (λ (c : ModuleSettings). c.name) t.modules m ∙ ap (option_map (λ (c : ModuleSettings). c.name)) s.at)

pub module_back : (t : Plan) → IsTopology t → (m : ModuleId) → m.0 < length t.modules
    → module_of t (name_of (names_of t) m.0) ≡ Some m
module_back t h m lt =
    let s = seat t m.0 lt in
    ap (module_of t) (name_at t m.0 s) ∙ ap (option_map (λ (place : ℕ). record { 0 = place })) (seated t h m.0 lt s)

name_high : (b : ℕ) → is_name_byte b ≡ true → is_high b ≡ true
name_high b h = grind (arith, nat_tests)

pub name_is_word : (t : Plan) → IsTopology t → (m : ModuleId) → m.0 < length t.modules → IsWord (name_of (names_of t) m.0)
name_is_word t h m lt =
    let s = seat t m.0 lt in
    let is_name_of : is_settings s.config ≡ true = h.modules m.0 s.config s.at in
    let named : is_name s.config.name ≡ true = (and_parts (is_name s.config.name) _ is_name_of).0 in
    let rest = (and_parts (nat_le 1 (length s.config.name)) _ named).1 in
    let each : list_all is_name_byte s.config.name ≡ true = (and_parts (nat_le (length s.config.name) 16) _ rest).1 in
    ap (list_all is_high) (name_at t m.0 s) ∙ all_pass is_name_byte is_high name_high s.config.name each

-- ---- the line

full : (k : ℕ) → k < 2 ^ 64 → (length (decimal k) == 0) ≡ false
full k h =
    let some : 0 < length (decimal k) = decimal_nonempty k h in
    grind (arith, nat_tests)

step_read : (t : Plan) → IsTopology t → (k : ℕ) → k < 2 ^ 64 → (m : ModuleId) → m.0 < length t.modules → (input : Input) → FitsInput input
    → words_line t (decimal k ∷ name_of (names_of t) m.0 ∷ word_of input ∷ number_text input ∷ []) ≡ Some (lines.Step k m (input_shown input))
step_read t h k lt m within input fits =
    rw (full k lt, n64 k lt, module_back t h m within, given_back input fits) refl

loss_read : (t : Plan) (k : ℕ) → k < 2 ^ 64 → (f : FrameName) → FitsName f
    → words_line t (decimal k ∷ codes "lost" ∷ frame_text f ∷ []) ≡ Some (lines.Lost k f)
loss_read t k lt f fits = rw (n64 k lt, frame_back f fits) refl

pub head_read : (t : Plan) → IsTopology t → (k : ℕ) → k < 2 ^ 64 → (m : ModuleId) → m.0 < length t.modules → (input : Input) → FitsInput input
    → line_of t (joined (decimal k) (name_of (names_of t) m.0 ∷ word_of input ∷ number_text input ∷ [])) ≡ Some (lines.Step k m (input_shown input))
unfolding line_of
head_read t h k lt m within input fits =
    ap (words_line t) (joined_parted (decimal k) (name_of (names_of t) m.0 ∷ word_of input ∷ number_text input ∷ []) (decimal_word k lt)
    (name_is_word t h m within, (input_is_word input, (number_is_word input fits, tt))))
    ∙ step_read t h k lt m within input fits

pub lost_read : (t : Plan) (k : ℕ) → k < 2 ^ 64 → (f : FrameName) → FitsName f
    → line_of t (joined (decimal k) (codes "lost" ∷ frame_text f ∷ [])) ≡ Some (lines.Lost k f)
unfolding line_of
lost_read t k lt f fits =
    ap (words_line t) (joined_parted (decimal k) (codes "lost" ∷ frame_text f ∷ []) (decimal_word k lt) (refl, (frame_word f fits, tt)))
    ∙ loss_read t k lt f fits
