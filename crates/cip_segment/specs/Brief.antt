-- A segment that is passed over at its first byte.
use Rattle.std.specs.Prelude.{◌≡◌, ℕ, ◌==◌, Bool, true, ◌&&◌, nat_lt, if◌then◌else◌, Result, Ok, Err}
use Rattle.cip_base.specs.Words.{Octets}
use Rattle.cip_segment.specs.declared.fault.PathFault.{PathFault}
use Rattle.cip_segment.specs.declared.segment.Segment.{Segment}

-- two bytes, whatever the second is: 8 bits, or a port below 15 with an address of one byte
abbrev pub is_short : ℕ → Bool
is_short h =
    if h == 0x20 then true
    else if h == 0x24 then true
    else if h == 0x28 then true
    else if h == 0x2C then true
    else if h == 0x30 then true
    else nat_lt 0 h && nat_lt h 15

-- what is left is what stands behind the segment that reading gives
abbrev pub PassesOver : {X : Type 0} → (X → Octets) → Result X PathFault
    → Result (Segment × Octets) PathFault → Type 0
PassesOver view (Ok x) read = (g : Segment) × (read ≡ Ok (g, view x))
PassesOver view (Err e) read = read ≡ Err e
