-- Which charts are long.
use Rattle.std.specs.Prelude.{ℕ, Bool, nat_lt}

-- those of more bytes than this
abbrev pub is_long : ℕ → Bool
is_long bytes = nat_lt 16000000 bytes
