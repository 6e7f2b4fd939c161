-- Ticks of the modules from the first on, one behind the other.
use Rattle.std.specs.Prelude.{ℕ, Bool, ◌+◌, ◌^◌, ◌-◌, ◌==◌, ◌&&◌, min, if◌then◌else◌, Option, Some, None}
use Rattle.cip_chart.specs.declared.ticks.Round.{Round}

-- sums stop at the greatest number
abbrev most : ℕ → ℕ
most n = min n (2 ^ 64 - 1)

-- how many rows were shown before the module at a place ticks; None where it is not its turn
abbrev pub rows_before : Round → ℕ → ℕ → Option ℕ
rows_before round at ms = if at == 0 then Some 0
    else if (at == round.modules) && (ms == round.ms) then Some round.rows else None

abbrev with_row : Bool → Option ℕ → ℕ
with_row is_shown None = 0
with_row is_shown (Some rows) = if is_shown then most (rows + 1) else rows

abbrev with_module : ℕ → Option ℕ → ℕ
with_module at None = 0
with_module at (Some rows) = most (at + 1)

-- how many rows are shown of those that ticked, with this one
abbrev pub rows_with : Round → ℕ → ℕ → Bool → ℕ
rows_with round at ms is_shown = with_row is_shown (rows_before round at ms)

-- how many modules ticked, with this one
abbrev pub next_of : Round → ℕ → ℕ → ℕ
next_of round at ms = with_module at (rows_before round at ms)
