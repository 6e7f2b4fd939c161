-- The numbers of entries and outputs, one behind the other.
use Rattle.std.specs.Prelude.{◌≡◌, ℕ, ◌+◌, ◌-◌, ◌^◌, min, Option, Some, IfSome}
use Rattle.cip_read.specs.declared.line.Line.{Line}
use Rattle.cip_read.specs.declared.line.Line.TheVariants.{Step, Lost, Output, Note}

-- the line has the number that comes next, where that is known, of an entry or of an output
abbrev pub IsNext : Option ℕ → Option ℕ → Line → Type 0
IsNext entry output (Step k m given) = IfSome entry (λ next. k ≡ next)
IsNext entry output (Lost k frame) = IfSome entry (λ next. k ≡ next)
IsNext entry output (Output i sent) = IfSome output (λ next. i ≡ next)
IsNext entry output (Note note) = Unit {0}

abbrev pub behind : ℕ → Option ℕ
behind n = Some (min (n + 1) (2 ^ 64 - 1))

-- the number of the entry that comes next behind a line
abbrev pub entry_after : Option ℕ → Line → Option ℕ
entry_after entry (Step k m given) = behind k
entry_after entry (Lost k frame) = behind k
entry_after entry line = entry

-- and that of the output: outputs are numbered from 0 in each entry
abbrev pub output_after : Option ℕ → Line → Option ℕ
output_after output (Step k m given) = Some 0
output_after output (Lost k frame) = Some 0
output_after output (Output i sent) = behind i
output_after output (Note note) = output
