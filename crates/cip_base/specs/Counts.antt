-- A connection id or a request number of 32 bits: a count of 16 bits, from 1, under an incarnation.
-- Counts rise, and a reset begins the next incarnation.
use Rattle.std.specs.Prelude.{ℕ, ◌+◌, ◌-◌, ◌*◌, ◌/◌, ◌%◌}
use Rattle.cip_base.specs.declared.limits.TheConstants.{COUNTS}

-- its low half
abbrev pub count_of : ℕ → ℕ
count_of number = number % COUNTS

-- ---- of what comes next, one past the last that was given

-- so many counts of its incarnation are given
abbrev pub counts_given : ℕ → ℕ
counts_given next = (next - 1) % COUNTS

abbrev pub incarnation : ℕ → ℕ
incarnation next = (next - 1) / COUNTS

-- what comes next after a reset
abbrev pub reborn : ℕ → ℕ
reborn next = COUNTS * (incarnation next + 1) + 1
