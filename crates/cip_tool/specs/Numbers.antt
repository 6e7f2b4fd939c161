-- Numbers as they stand in a text.
use Rattle.std.specs.Prelude.{ℕ, Bool, List, [], length, take, drop, nat_lt, ◌==◌}
use Rattle.std.specs.Prelude.{◌&&◌, if◌then◌else◌, Option, Some, None, option_and_then, codes}
use Rattle.std.specs.List.{list_all}
use Rattle.std.specs.Str.Parse.{digits_value}
use Rattle.std.specs.Char.{digit_value}
use Rattle.std.specs.Str.{bytes_eq}

-- the number that digits of this radix write, at least one of them
abbrev pub numeral : ℕ → List ℕ → Option ℕ
numeral radix digits =
    if nat_lt 0 (length digits) && list_all (λ c. nat_lt (digit_value c) radix) digits then
    Some (digits_value radix digits) else None

-- in decimal digits, or in hexadecimal ones after 0x
unfoldable pub number_of : List ℕ → Option ℕ
number_of word = if bytes_eq (take 2 word) (codes "0x") then numeral 16 (drop 2 word)
    else numeral 10 word

-- a number within a type's range
abbrev pub below : ℕ → Option ℕ → Option ℕ
below bound found = option_and_then (λ n. if nat_lt n bound then Some n else None) found
