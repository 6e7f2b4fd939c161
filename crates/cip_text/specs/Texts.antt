-- Numbers and bytes in digits, and texts in JSON strings.
use Rattle.std.specs.Prelude.{ℕ, Bool, not, ◌==◌, ◌&&◌, ◌+◌, ◌/◌, ◌%◌, List, [], ◌∷◌, length}
use Rattle.std.specs.Prelude.{codes, nat_le, if◌then◌else◌}
use Rattle.hex.specs.Hex.{encode_upper}

-- a number below 10,000, with zeros before it
abbrev pub four_digits : ℕ → List ℕ
four_digits n = (48 + n / 1000) ∷ (48 + n / 100 % 10) ∷ (48 + n / 10 % 10) ∷ (48 + n % 10) ∷ []

-- upper-case pairs, a dash for none
abbrev pub pairs_text : List ℕ → List ℕ
pairs_text bytes = if length bytes == 0 then codes "-" else encode_upper bytes

-- the byte stands in a JSON string as it is (RFC 8259, section 7)
abbrev pub is_plain : ℕ → Bool
is_plain b = nat_le 32 b && (not (b == 34) && not (b == 92))
