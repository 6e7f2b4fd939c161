-- Which lifelines an arrow passes.
use Rattle.std.specs.Prelude.{ℕ, ◌+◌, ◌-◌, ◌/◌, nat_le, if◌then◌else◌}

-- how many lifelines stand left of a place: the first at 150, and one every 170
abbrev pub count_left_of : ℕ → ℕ
count_left_of x = if nat_le x 150 then 0 else (x - 150 - 1) / 170 + 1
