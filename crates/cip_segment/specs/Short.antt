-- The shortest spelling.
use Rattle.std.specs.Prelude.{◌≡◌, ℕ, ◌+◌, ◌/◌, ◌%◌, ◌<◌, ◌≤◌, ◌==◌, ◌⊎◌, nat_lt, if◌then◌else◌, List, [], ◌∷◌, ◌++◌, length}
use Rattle.std.specs.List.{flat_map}
use Rattle.cip_base.specs.Words.{Octets}
use Rattle.cip_segment.specs.declared.segment.Segment.{Segment}
use Rattle.cip_segment.specs.declared.segment.Segment.TheVariants.{Port, Class, Instance, Member, Point, Attribute, Key, Words, Symbol, Inhibit}
use Rattle.cip_base.specs.Fields.{word, pad}
use Rattle.cip_segment.specs.declared.fault.PathFault.{PathFault}
use Rattle.cip_segment.specs.declared.fault.PathFault.TheVariants.{TooLong, NoMemory}
use Rattle.cip_segment.specs.Spelling.{Spells}

abbrev pub short_number : ℕ → ℕ → Octets
short_number h n =
    if nat_lt n 256 then h ∷ n ∷ []
    else if nat_lt n 65536 then (h + 1) ∷ 0 ∷ word n
    else (h + 2) ∷ 0 ∷ word (n % 65536) ++ word (n / 65536)

abbrev pub short_port : ℕ → Octets → Octets → Octets
short_port low w a =
    if length a == 1 then low ∷ w ++ a
    else (16 + low) ∷ length a ∷ w ++ a ++ pad (length a)

-- the shortest form of a segment
abbrev pub short_form : Segment → Octets
short_form (Port q a) = if nat_lt q 15 then short_port q [] a else short_port 15 (word q) a
short_form (Class n) = short_number 0x20 n
short_form (Instance n) = short_number 0x24 n
short_form (Member n) = short_number 0x28 n
short_form (Point n) = short_number 0x2C n
short_form (Attribute n) = short_number 0x30 n
short_form (Key k) =
    0x34 ∷ 0x04 ∷ word k.vendor ++ word k.device_type ++ word k.product ++ k.major ∷ k.minor ∷ []
short_form (Words d) = 0x80 ∷ (length d / 2) ∷ d
short_form (Symbol d) = 0x91 ∷ length d ∷ d ++ pad (length d)
short_form (Inhibit n) = 0x43 ∷ n ∷ []

-- the bytes end with the shortest form of a segment, behind those that stood before
abbrev pub IsPut : Segment → Octets → Octets → Type 0
IsPut g before after = after ≡ before ++ short_form g

abbrev pub short : List Segment → Octets
short s = flat_map short_form s

-- what write_path takes: even Words of at most 510 bytes, a Symbol of at most 255
abbrev pub IsWritable : Segment → Type 0
IsWritable (Words d) = (length d ≤ 510) × (length d % 2 ≡ 0)
IsWritable (Symbol d) = length d ≤ 255
IsWritable g = Unit {0}

-- b spells s, and each other text that does is longer
abbrev pub IsShortest : Octets → List Segment → Type 0
IsShortest b s =
    Spells b s
    × ((c : Octets) → Spells c s → (length b ≤ length c) × (length c ≤ length b → c ≡ b))

-- what the types of a segment's fields say of their numbers
abbrev pub IsRanged : Segment → Type 0
IsRanged (Port q a) = (1 ≤ q) × (q < 65536) × (1 ≤ length a) × (length a ≤ 16)
IsRanged (Class n) = n < 65536
IsRanged (Instance n) = n < 4294967296
IsRanged (Member n) = n < 65536
IsRanged (Point n) = n < 4294967296
IsRanged (Attribute n) = n < 65536
IsRanged (Key k) =
    (k.vendor < 65536) × (k.device_type < 65536) × (k.product < 65536)
    × (k.major < 256) × (k.minor < 256)
IsRanged (Words d) = Unit {0}
IsRanged (Symbol d) = Unit {0}
IsRanged (Inhibit n) = n < 256

-- why the shortest spelling is not written
abbrev pub IsWriteFault : List Segment → PathFault → Type 0
IsWriteFault s f = (f ≡ NoMemory) ⊎ ((f ≡ TooLong) × (510 < length (short s)))
