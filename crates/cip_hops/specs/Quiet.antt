-- Until when no side of a connection has been silent for too long.
use Rattle.std.specs.Prelude.{◌≤◌, Some, Option, None, List, length, min}
use Rattle.slab.specs.Slab.{Slab, get}
use Rattle.cip_base.specs.Words.{Microseconds}
use Rattle.cip_clock.specs.Bounds.{AreBounds}
use Rattle.cip_hops.specs.declared.hop.Held.{Held}
use Rattle.cip_hops.specs.declared.hop.Held.TheVariants.{Opening as IsOpening, Open}

-- the earlier of two, where None is never
abbrev pub earlier : Option Microseconds → Option Microseconds → Option Microseconds
earlier None second = second
earlier (Some first) None = Some first
earlier (Some first) (Some second) = Some (min first second)

-- the first time at which either side has been silent for too long
abbrev pub deadline_of : Held → Option Microseconds
deadline_of (IsOpening o ids) = None
deadline_of (Open hop) = earlier hop.up_deadline hop.down_deadline

-- there is a bound for each key, and no record has an earlier deadline
pub record IsBounded (records : Slab Held) (bounds : List Microseconds) : Type 0 where
  pub room : records.capacity ≤ length bounds
  pub bounded : AreBounds deadline_of (get records) bounds
