-- Until when no request is given up.
use Rattle.std.specs.Prelude.{◌≤◌, Bool, false, Some, Option, List, length, nat_le}
use Rattle.std.specs.Option.{option_map_or}
use Rattle.slab.specs.Slab.{Slab, get}
use Rattle.cip_base.specs.Words.{Microseconds}
use Rattle.cip_clock.specs.Bounds.{AreBounds}
use Rattle.cip_pending.specs.declared.entry.Entry.{Entry}

abbrev pub deadline_of : Entry → Option Microseconds
deadline_of x = Some x.deadline

-- there is a bound for each key, and no record has an earlier deadline
pub record IsBounded (records : Slab Entry) (bounds : List Microseconds) : Type 0 where
  pub room : records.capacity ≤ length bounds
  pub bounded : AreBounds deadline_of (get records) bounds

-- this time has come, where there is one
abbrev pub is_reached : Microseconds → Option Microseconds → Bool
is_reached now time = option_map_or (λ t. nat_le t now) time false
