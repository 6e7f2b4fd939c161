-- Number fields at their places. Past the end of the bytes 0 stands.
use Rattle.std.specs.Prelude.{ℕ, ◌+◌, ◌*◌, nat_lt, if◌then◌else◌, List, [], ◌∷◌, ◌++◌, length, slice_index, Option, Some, None}
use Rattle.cip_base.specs.Fields.{word, double}
use Rattle.cip_base.specs.Words.{Octets}
use Rattle.cip_base.specs.declared.triad.Triad.{Triad}

-- the word from place i, the lowest byte first
abbrev pub word_in : Octets → ℕ → ℕ
word_in b i = slice_index b i + 256 * slice_index b (i + 1)

-- the double word from place i, the lowest byte first
abbrev pub double_in : Octets → ℕ → ℕ
double_in b i = word_in b i + 65536 * word_in b (i + 2)

-- the connection triad in the eight bytes from place i: connection serial number, originator
-- vendor, originator serial number
abbrev pub triad_in : Octets → ℕ → Triad
triad_in b i = record {
  serial = word_in b i;
  vendor = word_in b (i + 2);
  originator = double_in b (i + 4);
}

-- the eight bytes of a connection triad
abbrev pub triad_bytes : Triad → Octets
triad_bytes t = word t.serial ++ (word t.vendor ++ double t.originator)

-- the words that the bytes are; an odd byte at the end is no word
abbrev pub words_in : Octets → List ℕ
words_in [] = []
words_in (lo ∷ []) = []
words_in (lo ∷ hi ∷ rest) = (lo + 256 * hi) ∷ words_in rest

-- the bytes of words
abbrev pub words_bytes : List ℕ → Octets
words_bytes [] = []
words_bytes (n ∷ rest) = word n ++ words_bytes rest

-- that triad, where its bytes are there
abbrev pub triad_within : Octets → ℕ → Option Triad
triad_within b i = if nat_lt (length b) (i + 8) then None else Some (triad_in b i)
