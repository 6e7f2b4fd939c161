-- Why the bytes of a topology file are no text.
use Rattle.std.specs.Prelude.{◌≡◌, ℕ, List, Some, slice_get, unwrap_or}
use Rattle.cip_check.specs.declared.bytes.NotUtf8.{NotUtf8}
use Rattle.cip_check.specs.declared.bytes.NotUtf8.TheVariants.{Wide, Byte}

-- they begin with these two; or the byte at the place is this one
abbrev pub IsWhy : List ℕ → ℕ → NotUtf8 → Type 0
IsWhy bytes place (Wide a b) = (slice_get bytes 0 ≡ Some a) × (slice_get bytes 1 ≡ Some b)
IsWhy bytes place (Byte line byte) = byte ≡ unwrap_or (slice_get bytes place) 0
