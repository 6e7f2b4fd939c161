-- Words, numbers and bytes as a transcript shows them.
use Rattle.std.specs.Prelude.{ℕ, Bool, List, [], ◌∷◌, length, nat_lt, ◌==◌, ◌&&◌, if◌then◌else◌}
use Rattle.std.specs.Prelude.{slice_index, ◌≡◌, ◌<◌, false}
use Rattle.std.specs.Prelude.{Option, Some, None, option_and_then, codes, Result, Ok, Err}
use Rattle.std.specs.Char.{is_ascii_digit}
use Rattle.std.specs.List.{slice_split, list_all}
use Rattle.std.specs.Str.Parse.{digits_value}
use Rattle.std.specs.Str.{bytes_eq}
use Rattle.hex.specs.Hex.{decode_of, encode_upper}

-- the byte is a space
abbrev pub is_space : ℕ → Bool
is_space b = b == 32

-- the byte is a dot
abbrev pub is_dot : ℕ → Bool
is_dot b = b == 46

-- the byte is a newline
abbrev pub is_newline : ℕ → Bool
is_newline b = b == 10

-- none of the first bytes is a newline
abbrev pub HasNoNewline : List ℕ → ℕ → Type 0
HasNoNewline text count = (k : ℕ) → k < count → is_newline (slice_index text k) ≡ false

-- the parts of a line between its spaces
abbrev pub words_of : List ℕ → List (List ℕ)
words_of line = slice_split is_space line

-- the two parts, where there are two
abbrev pub two_of : List (List ℕ) → Option (List ℕ × List ℕ)
two_of (first ∷ last ∷ []) = Some (first, last)
two_of parts = None

-- the two parts of a word around its only dot
abbrev pub halves_of : List ℕ → Option (List ℕ × List ℕ)
halves_of word = two_of (slice_split is_dot word)

-- the number that decimal digits write, at least one of them
unfoldable pub number_of : List ℕ → Option ℕ
number_of word =
    if nat_lt 0 (length word) && list_all is_ascii_digit word then Some (digits_value 10 word)
    else None

-- a number below a bound
abbrev pub below : ℕ → Option ℕ → Option ℕ
below bound found = option_and_then (λ n. if nat_lt n bound then Some n else None) found

abbrev pub ok_bytes : {E : Type 0} → Result (List ℕ) E → Option (List ℕ)
ok_bytes (Ok bytes) = Some bytes
ok_bytes (Err e) = None

-- pairs of hexadecimal digits, or a dash for no byte
unfoldable pub bytes_of : List ℕ → Option (List ℕ)
bytes_of word = if bytes_eq word (codes "-") then Some [] else if length word == 0 then None
    else ok_bytes (decode_of word)

-- how bytes are shown
abbrev pub bytes_shown : List ℕ → List ℕ
bytes_shown bytes = if length bytes == 0 then codes "-" else encode_upper bytes
