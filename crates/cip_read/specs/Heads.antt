-- What the line of an entry shows, before those of its outputs.
use Rattle.std.specs.Prelude.{ℕ, ◌^◌, ◌==◌, if◌then◌else◌, List, length, Option, Some, None, codes}
use Rattle.std.specs.Str.{bytes_eq}
use Rattle.cip_chassis.specs.Plan.{Plan}
use Rattle.cip_words.specs.Shown.{below, number_of}
use Rattle.cip_read.specs.Fields.{◌>>=◌, nth, of_words, ms_of, frame_of, module_of}
use Rattle.cip_read.specs.declared.line.CommandWord.{CommandWord}
use Rattle.cip_read.specs.declared.line.CommandWord.TheVariants as words
use Rattle.cip_read.specs.declared.line.Given.{Given}
use Rattle.cip_read.specs.declared.line.Given.TheVariants.{Command, Tick, Frame}
use Rattle.cip_read.specs.declared.line.Line.{Line}
use Rattle.cip_read.specs.declared.line.Line.TheVariants.{Step, Lost}

abbrev pub command_of : List ℕ → Option CommandWord
command_of word =
    if bytes_eq word (codes "send") then Some words.Send
    else if bytes_eq word (codes "open") then Some words.Open
    else if bytes_eq word (codes "large") then Some words.Large
    else if bytes_eq word (codes "close") then Some words.Close
    else if bytes_eq word (codes "enter") then Some words.Enter
    else if bytes_eq word (codes "set") then Some words.Set
    else if bytes_eq word (codes "produce") then Some words.Produce
    else None

abbrev pub by_command : List ℕ → List ℕ → Option Given
by_command word number = do
  command ← command_of word
  n ← below (2 ^ 32) (number_of number)
  Some (Command command n)

-- a frame by its name, a tick, or a command
abbrev pub given_of : List ℕ → List ℕ → Option Given
given_of word number =
    if bytes_eq word (codes "frame") then (frame_of number >>= λ frame. Some (Frame frame))
    else if bytes_eq word (codes "tick") then (ms_of number >>= λ ms. Some (Tick ms))
    else by_command word number

-- `ENTRY M WORD NUMBER`
abbrev pub step_of : Plan → List (List ℕ) → Option Line
step_of t w = do
  entry ← below (2 ^ 64) (number_of (nth w 0))
  m ← module_of t (nth w 1)
  given ← given_of (nth w 2) (nth w 3)
  Some (Step entry m given)

abbrev pub loss_of : ℕ → List (List ℕ) → Option Line
loss_of entry w =
    if bytes_eq (nth w 1) (codes "lost") then
    (frame_of (nth w 2) >>= λ frame. Some (Lost entry frame)) else None

-- `ENTRY lost E.K`
abbrev pub lost_of : List (List ℕ) → Option Line
lost_of w = below (2 ^ 64) (number_of (nth w 0)) >>= λ entry. loss_of entry w

-- of three words it is a loss
abbrev pub head_of : Plan → List (List ℕ) → Option Line
head_of t w = if length w == 3 then lost_of w else of_words 4 w (step_of t w)
