-- What the segments of a path are in bytes, and which fault a text has that spells none.
use Rattle.std.specs.Prelude.{◌≡◌, ℕ, ◌+◌, ◌*◌, ◌<◌, ◌≤◌, ◌⊎◌, List, [], ◌∷◌, ◌++◌, length}
use Rattle.cip_base.specs.Fields.{IsWord, IsDouble, pad}
use Rattle.cip_base.specs.Words.{Octets, LinkAddress, PortIdentifier}
use Rattle.cip_base.specs.declared.key.KeyFields.{KeyFields}
use Rattle.cip_segment.specs.declared.segment.Segment.{Segment}
use Rattle.cip_segment.specs.declared.segment.Segment.TheVariants.{Port, Class, Instance, Member, Point, Attribute, Key, Words, Symbol, Inhibit}
use Rattle.cip_segment.specs.declared.fault.PathFault.{PathFault}
use Rattle.cip_segment.specs.declared.fault.PathFault.TheVariants.{Truncated, Reserved, BadPad, TooLong, NoMemory}

-- A logical segment behind the segment byte h of its 8-bit form: one byte,
abbrev pub IsNarrow : ℕ → ℕ → Octets → Type 0
IsNarrow h n x = (n < 256) × (x ≡ h ∷ n ∷ [])

-- or a pad and two bytes,
abbrev pub IsWide : ℕ → ℕ → Octets → Type 0
IsWide h n x = (w : Octets) × IsWord n w × (x ≡ (h + 1) ∷ 0 ∷ w)

-- or a pad and four bytes.
abbrev pub IsLong : ℕ → ℕ → Octets → Type 0
IsLong h n x = (w : Octets) × IsDouble n w × (x ≡ (h + 2) ∷ 0 ∷ w)

-- The port q: in the low bits of the segment byte, with nothing after it; or 15 stands there, and
-- two bytes follow.
abbrev pub IsPortNumber : PortIdentifier → ℕ → Octets → Type 0
IsPortNumber q low w = (0 < q) × (((q < 15) × (low ≡ q) × (w ≡ [])) ⊎ ((low ≡ 15) × IsWord q w))

-- The address a: one byte as it is; or with bit 4 of the segment byte, its size before it, and a
-- pad after it.
abbrev pub IsPort : PortIdentifier → LinkAddress → Octets → Type 0
IsPort q a x =
    (low : ℕ) × (w : Octets) × IsPortNumber q low w
    × (((length a ≡ 1) × (x ≡ low ∷ w ++ a))
    ⊎ ((1 ≤ length a) × (length a ≤ 16) × (x ≡ (16 + low) ∷ length a ∷ w ++ a ++ pad (length a))))

abbrev pub IsKey : KeyFields → Octets → Type 0
IsKey k x =
    (v : Octets) × (t : Octets) × (p : Octets)
    × IsWord k.vendor v × IsWord k.device_type t × IsWord k.product p
    × (k.major < 256) × (k.minor < 256) × (x ≡ 0x34 ∷ 0x04 ∷ v ++ t ++ p ++ k.major ∷ k.minor ∷ [])

-- the bytes x are one of the forms of the segment g
abbrev pub IsForm : Octets → Segment → Type 0
IsForm x (Port q a) = IsPort q a x
IsForm x (Class n) = IsNarrow 0x20 n x ⊎ IsWide 0x20 n x
IsForm x (Instance n) = IsNarrow 0x24 n x ⊎ (IsWide 0x24 n x ⊎ IsLong 0x24 n x)
IsForm x (Member n) = IsNarrow 0x28 n x ⊎ IsWide 0x28 n x
IsForm x (Point n) = IsNarrow 0x2C n x ⊎ (IsWide 0x2C n x ⊎ IsLong 0x2C n x)
IsForm x (Attribute n) = IsNarrow 0x30 n x ⊎ IsWide 0x30 n x
IsForm x (Key k) = IsKey k x
IsForm x (Words d) = (n : ℕ) × (n < 256) × (length d ≡ 2 * n) × (x ≡ 0x80 ∷ n ∷ d)
IsForm x (Symbol d) = (length d < 256) × (x ≡ 0x91 ∷ length d ∷ d ++ pad (length d))
IsForm x (Inhibit n) = IsNarrow 0x43 n x

-- the bytes b spell the segments: no bytes spell none, and a form of the first and a spelling of
-- the others spell both
abbrev pub Spells : Octets → List Segment → Type 0
Spells b [] = b ≡ []
Spells b (g ∷ t) = (x : Octets) × (y : Octets) × (b ≡ x ++ y) × IsForm x g × Spells y t

-- at most 510 bytes that spell some list
abbrev pub IsReadable : Octets → Type 0
IsReadable b = (length b ≤ 510) × ∥ ((s : List Segment) × Spells b s) ∥₁

-- some spelling begins with p
abbrev pub Begins : Octets → Type 0
Begins p = (more : Octets) × (s : List Segment) × Spells (p ++ more) s

-- a pad is due after p: a spelling may go on with 00, and none with anything else
abbrev pub IsPadDue : Octets → Type 0
IsPadDue p = Begins (p ++ 0 ∷ []) × ((v : ℕ) → Begins (p ++ v ∷ []) → v ≡ 0)

-- v is the first byte of b that can't continue a path, and p what stands before it
abbrev pub StopsAt : Octets → Octets → ℕ → Type 0
StopsAt b p v = (more : Octets) × (b ≡ p ++ v ∷ more) × Begins p × (Begins (p ++ v ∷ []) → ⊥)

-- the fault of a text that is no path
abbrev pub IsFault : Octets → PathFault → Type 0
IsFault b TooLong = 510 < length b
IsFault b Truncated = (length b ≤ 510) × Begins b × (IsReadable b → ⊥)
IsFault b BadPad = (length b ≤ 510) × ((p : Octets) × (v : ℕ) × StopsAt b p v × IsPadDue p)
IsFault b (Reserved v) = (length b ≤ 510) × ((p : Octets) × StopsAt b p v × (IsPadDue p → ⊥))
IsFault b NoMemory = ⊥

-- the first segment is g, and y stands behind it
abbrev pub Splits : Octets → Segment → Octets → Type 0
Splits b g y = (x : Octets) × (b ≡ x ++ y) × IsForm x g

-- the fault of a call that also takes memory
abbrev pub IsReadFault : Octets → PathFault → Type 0
IsReadFault b f = ((f ≡ NoMemory) × IsReadable b) ⊎ IsFault b f
