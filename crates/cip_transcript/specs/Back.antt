-- What the lines of an entry show, and what is read of a text line by line.
use Rattle.std.specs.Prelude.{◌≡◌, ℕ, ◌+◌, ◌++◌, ◌==◌, Bool, if◌then◌else◌, List, [], ◌∷◌, length, Option, Some, None, All}
use Rattle.std.specs.List.{slice_split}
use Rattle.cip_event.specs.declared.event.Command.{Command}
use Rattle.cip_event.specs.declared.event.Command.TheVariants as commands
use Rattle.cip_event.specs.declared.event.Output.{Output}
use Rattle.cip_chassis.specs.Plan.{Plan}
use Rattle.cip_world.specs.declared.journal.Input.{Input}
use Rattle.cip_world.specs.declared.journal.Input.TheVariants as inputs
use Rattle.cip_world.specs.declared.journal.Entry.{Entry}
use Rattle.cip_world.specs.declared.journal.Entry.TheVariants as entries
use Rattle.cip_read.specs.declared.line.CommandWord.TheVariants as words
use Rattle.cip_read.specs.declared.line.Given.{Given}
use Rattle.cip_read.specs.declared.line.Given.TheVariants as givens
use Rattle.cip_read.specs.declared.line.Line.{Line}
use Rattle.cip_read.specs.declared.line.Line.TheVariants as lines
use Rattle.cip_read.specs.Fields.{◌>>=◌}
use Rattle.cip_read.specs.Lines.{line_of}
use Rattle.cip_transcript.specs.Show.{entry_text}

-- ---- what is shown

-- of a command its word, and its op, the op of an open, or an instance
abbrev pub command_shown : Command → Given
command_shown (commands.Open op timing path params) = givens.Command words.Open op
command_shown (commands.LargeOpen op timing path params) = givens.Command words.Large op
command_shown (commands.Close op of timing) = givens.Command words.Close op
command_shown (commands.Enter of bytes) = givens.Command words.Enter of
command_shown (commands.Set instance bytes) = givens.Command words.Set instance
command_shown (commands.Produce instance) = givens.Command words.Produce instance
command_shown (commands.Send op timing path asked) = givens.Command words.Send op

abbrev pub input_shown : Input → Given
input_shown (inputs.Command command) = command_shown command
input_shown (inputs.Tick ms) = givens.Tick ms
input_shown (inputs.Frame port from f) = givens.Frame f

-- outputs, each whole, the first of which has this number
abbrev pub outputs_shown : ℕ → List Output → List Line
outputs_shown i [] = []
outputs_shown i (output ∷ more) = lines.Output i output ∷ outputs_shown (i + 1) more

-- entry k: what its module was given, and each output; or the frame that was lost
abbrev pub lines_shown : ℕ → Entry → List Line
lines_shown k (entries.Step m input outputs) =
    lines.Step k m (input_shown input) ∷ outputs_shown 0 outputs
lines_shown k (entries.Lost frame) = lines.Lost k frame ∷ []

-- entries one behind the other, the first of which has this number, as text and as lines
abbrev pub entries_text : List (List ℕ) → ℕ → List Entry → List ℕ
entries_text names k [] = []
entries_text names k (entry ∷ more) = entry_text names k entry ++ entries_text names (k + 1) more

abbrev pub entries_shown : ℕ → List Entry → List Line
entries_shown k [] = []
entries_shown k (entry ∷ more) = lines_shown k entry ++ entries_shown (k + 1) more

-- ---- what is read

-- the byte ends a line
abbrev pub is_end : ℕ → Bool
is_end b = b == 10

-- each line as what it shows; behind the end of the last one stands nothing
abbrev pub read_lines : Plan → List (List ℕ) → Option (List Line)
read_lines t [] = None
read_lines t (rest ∷ []) = if length rest == 0 then Some [] else None
read_lines t (line ∷ next ∷ more) = line_of t line >>= λ shown. (read_lines t (next ∷ more)
    >>= λ others. Some (shown ∷ others))

-- what the lines of a text show, where each is part of an entry
abbrev pub read_text : Plan → List ℕ → Option (List Line)
read_text t text = read_lines t (slice_split is_end text)

-- no line of the text shows a part of an entry, and nothing behind the last one does
abbrev pub ShowsNone : Plan → List ℕ → Type 0
ShowsNone t text = All (λ line. line_of t line ≡ None) (slice_split is_end text)
