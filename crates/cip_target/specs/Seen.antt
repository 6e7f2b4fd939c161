-- What a borrowed row says, for a request with this data.
use Rattle.std.specs.Prelude.{◌≤◌, length, Option, option_map}
use Rattle.std.specs.Borrow.{Bor}
use Rattle.cip_base.specs.declared.limits.TheConstants.{MAX_DATUM}
use Rattle.cip_base.specs.Words.{Octets, InstanceNumber}
use Rattle.cip_target.specs.declared.rows.Row.{Row}
use Rattle.cip_target.specs.declared.rows.Row.TheVariants as rows
use Rattle.cip_target.specs.Rows.{TargetRow, Refused, Read, Written, Reset}

-- bytes that are borrowed, if there are any
abbrev pub bytes_seen : Option (Bor Octets) → Option Octets
bytes_seen b = option_map (λ d. d.now) b

-- an assembly whose bytes are borrowed
abbrev pub assembly_seen : Option (InstanceNumber × Bor Octets) → Option (InstanceNumber × Octets)
assembly_seen e = option_map (λ e. (e.0, e.1.now)) e

abbrev pub seen : Octets → Row → TargetRow
seen d (rows.Refused refusal) = Refused refusal
seen d (rows.Read found) = Read found.now
seen d (rows.Written i) = Written i d
seen d rows.Reset = Reset

-- what it reads fits a reply
abbrev pub IsSmall : Row → Type 0
IsSmall (rows.Refused refusal) = Unit {0}
IsSmall (rows.Read found) = length found.now ≤ MAX_DATUM
IsSmall (rows.Written i) = Unit {0}
IsSmall rows.Reset = Unit {0}
