-- When the first of what waits is given up.
use Rattle.std.specs.Prelude.{Bool, ◌||◌}
use Rattle.std.specs.List.{list_any}
use Rattle.std.specs.FinMap as map
use Rattle.cip_base.specs.Words.{Microseconds}
use Rattle.cip_pending.specs.Pendings.{is_due}
use Rattle.cip_hops.specs.Hops.{is_entry_due}
use Rattle.cip_routing.specs.State.{State}

-- a request is given up, or a side of a connection has been silent for too long, at this time or
-- before
abbrev pub is_any_due : Microseconds → State → Bool
is_any_due time s = list_any (is_due time) (map.entries s.pendings.entries)
    || list_any (is_entry_due time) (map.entries s.hops.held)
