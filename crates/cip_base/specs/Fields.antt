-- Number fields of a message: little-endian words and double words, and bytes that pad.
use Rattle.std.specs.Prelude.{◌≡◌, ℕ, ◌+◌, ◌*◌, ◌/◌, ◌%◌, ◌<◌, ◌==◌, if◌then◌else◌, [], ◌∷◌, ◌++◌, slice_index}
use Rattle.cip_base.specs.Words.{Octets}

-- each element is a byte
abbrev pub IsBytes : Octets → Type 0
IsBytes b = (i : ℕ) → slice_index b i < 256

-- the number n in two bytes, the lowest first
abbrev pub IsWord : ℕ → Octets → Type 0
IsWord n x =
    (lo : ℕ) × (hi : ℕ) × (lo < 256) × (hi < 256) × (n ≡ lo + 256 * hi) × (x ≡ lo ∷ hi ∷ [])

-- the number n in four bytes, the lowest first
abbrev pub IsDouble : ℕ → Octets → Type 0
IsDouble n x =
    (low : ℕ) × (high : ℕ) × (v : Octets) × (w : Octets)
    × IsWord low v × IsWord high w × (n ≡ low + 65536 * high) × (x ≡ v ++ w)

-- two bytes, the lowest first
abbrev pub word : ℕ → Octets
word n = (n % 256) ∷ (n / 256) ∷ []

-- four bytes, the lowest first
abbrev pub double : ℕ → Octets
double n = word (n % 65536) ++ word (n / 65536)

-- the pad after n bytes: one 00 where n is odd
abbrev pub pad : ℕ → Octets
pad n = if n % 2 == 1 then 0 ∷ [] else []
