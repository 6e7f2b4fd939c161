-- What a line of a transcript shows, where it is part of an entry.
use Rattle.std.specs.Prelude.{◌≡◌, ℕ, ◌^◌, ◌==◌, ◌&&◌, Bool, nat_lt, if◌then◌else◌, List, length}
use Rattle.std.specs.Prelude.{Option, Some, None, Result, Ok, Err, is_some}
use Rattle.cip_chassis.specs.Plan.{Plan}
use Rattle.cip_words.specs.Shown.{words_of, below, number_of}
use Rattle.cip_read.specs.declared.fault.LineFault.{LineFault}
use Rattle.cip_read.specs.declared.line.Line.{Line}
use Rattle.cip_read.specs.declared.line.Line.TheVariants.{Output, Note}
use Rattle.cip_read.specs.Fields.{◌>>=◌, nth, Refuses}
use Rattle.cip_read.specs.Heads.{head_of}
use Rattle.cip_read.specs.Outputs.{output_of}

-- `  K` and the words of an output
abbrev pub numbered_of : List (List ℕ) → Option Line
numbered_of w = below (2 ^ 64) (number_of (nth w 2)) >>= λ index. (output_of w >>= λ output.
    Some (Output index output))

-- the line begins with two spaces
abbrev pub is_indented : List (List ℕ) → Bool
is_indented w = nat_lt 3 (length w) && (length (nth w 0) == 0) && (length (nth w 1) == 0)

-- the line begins with a number
abbrev pub is_head : List (List ℕ) → Bool
is_head w = nat_lt 0 (length w) && is_some (below (2 ^ 64) (number_of (nth w 0)))

abbrev pub words_line : Plan → List (List ℕ) → Option Line
words_line t w =
    if is_indented w then numbered_of w
    else if is_head w then head_of t w
    else None

-- over a topology, the line of an entry or of one of its outputs; any other line shows
-- no part of an entry
unfoldable pub line_of : Plan → List ℕ → Option Line
line_of t line = words_line t (words_of line)

-- what was read is what the line shows, and no part of an entry where it shows none
abbrev pub IsShown : Line → Option Line → Type 0
IsShown (Note note) read = read ≡ None
IsShown line read = read ≡ Some line

abbrev pub Reads : Result Line LineFault → Option Line → Type 0
Reads (Ok line) read = IsShown line read
Reads (Err fault) read = Refuses fault read
