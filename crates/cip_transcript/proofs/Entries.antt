-- The lines of an entry are read as that entry.
use Rattle.std.proofs.Common.{◌≡◌, ℕ, ◌<◌, ◌+◌, ◌^◌, ◌++◌, ◌∷◌, List, [], Some, false, refl, sym, ap, ◌∙◌, append_assoc, append-nil}
use Rattle.std.specs.Prelude.{codes, decimal, All}
use Rattle.std.specs.List.{slice_split}
use Rattle.std.proofs.lemmas.List.Splits.{slice_split_at}
use Rattle.cip_event.specs.declared.event.Output.{Output}
use Rattle.cip_chassis.specs.Plan.{Plan, IsTopology}
use Rattle.cip_read.specs.Lines.{line_of}
use Rattle.cip_read.specs.declared.line.Line.{Line}
use Rattle.cip_read.specs.declared.line.Line.TheVariants as lines
use Rattle.cip_world.specs.declared.journal.Entry.{Entry}
use Rattle.cip_world.specs.declared.journal.Entry.TheVariants as entries
use Rattle.cip_transcript.specs.Show.{head_text, lost_text, input_text, frame_text, name_of, names_of, output_line, outputs_text, entry_text}
use Rattle.cip_transcript.specs.Back.{is_end, input_shown, outputs_shown, lines_shown, read_lines, read_text, entries_text, entries_shown}
use Rattle.cip_transcript.specs.Fits.{FitsOutputs, FitsEntry, FitsEntries}
use Rattle.cip_transcript.proofs.Words.{decimal_word, joined, joined_endless}
use Rattle.cip_transcript.proofs.Outputs.{line_words, line_joined, line_are_words, output_line_read}
use Rattle.cip_transcript.proofs.Heads.{word_of, number_text, head_joined, lost_joined, head_read, lost_read, name_is_word, input_is_word, number_is_word}
use Rattle.cip_transcript.proofs.Heads.{frame_word}

in_front : (t : Plan) (line : List ℕ) (parts : List (List ℕ)) (shown : Line) (others : List Line)
    → line_of t line ≡ Some shown → read_lines t parts ≡ Some others → read_lines t (line ∷ parts) ≡ Some (shown ∷ others)
in_front t line [] shown others read h = absurd cc
in_front t line (next ∷ more) shown others read h = rw (read, h) refl

-- a line in front of a text that is read
pub one_more : (t : Plan) (line rest : List ℕ) (shown : Line) (others : List Line)
    → All (λ b. is_end b ≡ false) line → line_of t line ≡ Some shown → read_text t rest ≡ Some others
    → read_text t (line ++ 10 ∷ rest) ≡ Some (shown ∷ others)
one_more t line rest shown others whole read h =
    ap (read_lines t) (slice_split_at is_end line 10 rest whole refl) ∙ in_front t line (slice_split is_end rest) shown others read h

-- the same, where the line is written with its end
with_end : (t : Plan) (text line rest : List ℕ) (shown : Line) (others : List Line) → text ≡ line ++ 10 ∷ []
    → All (λ b. is_end b ≡ false) line → line_of t line ≡ Some shown → read_text t rest ≡ Some others
    → read_text t (text ++ rest) ≡ Some (shown ∷ others)
with_end t text line rest shown others e whole read h =
    ap (λ x. read_text t (x ++ rest)) e ∙ (ap (read_text t) (append_assoc line (10 ∷ []) rest) ∙ one_more t line rest shown others whole read h)

-- the lines of outputs in front of a text that is read
pub outputs_before : (t : Plan) (i : ℕ) (outputs : List Output) (rest : List ℕ) (others : List Line) → FitsOutputs i outputs
    → read_text t rest ≡ Some others → read_text t (outputs_text i outputs ++ rest) ≡ Some (outputs_shown i outputs ++ others)
outputs_before t i [] rest others h r = r
outputs_before t i (output ∷ more) rest others h r =
    ap (read_text t) (append_assoc (output_line i output) (outputs_text (i + 1) more) rest)
    ∙ with_end t (output_line i output) (joined [] (line_words i output)) (outputs_text (i + 1) more ++ rest) (lines.Output i output)
    (outputs_shown (i + 1) more ++ others)
    (line_joined i output) (joined_endless [] (line_words i output) refl (line_are_words i output h.0 h.1))
    (output_line_read t i output h.0 h.1) (outputs_before t (i + 1) more rest others h.2 r)

-- the lines of an entry in front of a text that is read
pub entry_before : (t : Plan) → IsTopology t → (k : ℕ) → k < 2 ^ 64 → (entry : Entry) (rest : List ℕ) (others : List Line) → FitsEntry t entry
    → read_text t rest ≡ Some others → read_text t (entry_text (names_of t) k entry ++ rest) ≡ Some (lines_shown k entry ++ others)
entry_before t h k lt (entries.Step m input outputs) rest others fits r =
    let name : List ℕ = name_of (names_of t) m.0 in
    ap (read_text t) (append_assoc (head_text k name (input_text input)) (outputs_text 0 outputs) rest)
    ∙ with_end t (head_text k name (input_text input)) (joined (decimal k) (name ∷ word_of input ∷ number_text input ∷ []))
    (outputs_text 0 outputs ++ rest) (lines.Step k m (input_shown input)) (outputs_shown 0 outputs ++ others)
    (head_joined k name input)
    (joined_endless (decimal k) (name ∷ word_of input ∷ number_text input ∷ []) (decimal_word k lt)
    (name_is_word t h m fits.0, (input_is_word input, (number_is_word input fits.1, tt))))
    (head_read t h k lt m fits.0 input fits.1) (outputs_before t 0 outputs rest others fits.2 r)
entry_before t h k lt (entries.Lost f) rest others fits r =
    let line : List ℕ = joined (decimal k) (codes "lost" ∷ frame_text f ∷ []) in
    with_end t (lost_text k f) line rest (lines.Lost k f) others (lost_joined k f)
    (joined_endless (decimal k) (codes "lost" ∷ frame_text f ∷ []) (decimal_word k lt) (refl, (frame_word f fits, tt)))
    (lost_read t k lt f fits) r

pub entry_read : (t : Plan) → IsTopology t → (k : ℕ) → k < 2 ^ 64 → (entry : Entry) → FitsEntry t entry
    → read_text t (entry_text (names_of t) k entry) ≡ Some (lines_shown k entry)
entry_read t h k lt entry fits =
    ap (read_text t) (sym (append-nil (entry_text (names_of t) k entry)))
    ∙ (entry_before t h k lt entry [] [] fits refl ∙ ap Some (append-nil (lines_shown k entry)))

pub entries_read : (t : Plan) → IsTopology t → (k : ℕ) (all : List Entry) → FitsEntries t k all
    → read_text t (entries_text (names_of t) k all) ≡ Some (entries_shown k all)
entries_read t h k [] fits = refl
entries_read t h k (entry ∷ more) fits =
    entry_before t h k fits.0 entry (entries_text (names_of t) (k + 1) more) (entries_shown (k + 1) more) fits.1
    (entries_read t h (k + 1) more fits.2)
