-- How long nothing happens to a device that is given nothing.
use Rattle.std.specs.Prelude.{◌≡◌, ◌≢◌, ◌↔◌, ◌+◌, ◌*◌, ◌^◌, ◌<◌, ◌≤◌, ◌||◌, ℕ, Bool, true, false, List, [], Option, Some, None, IfSome, nat_le}
use Rattle.std.specs.List.{list_any}
use Rattle.cip_hops.specs.Hops.{is_past}
use Rattle.cip_event.specs.declared.event.Event.TheVariants as events
use Rattle.cip_routing.specs.Deadlines.{is_any_due as is_due_at}
use Rattle.cip_routing.specs.Table.{table_step}
use Rattle.cip_routing.specs.declared.tables.HopRow.{HopRow}
use Rattle.cip_routing.specs.declared.tables.PendingRow.{PendingRow}
use Rattle.cip_device.specs.Shown.{Shown}
use Rattle.cip_device.specs.Statuses.{IsDeadlineStatus}

-- the request is given up at this time, or was before
abbrev pub is_given_up : ℕ → PendingRow → Bool
is_given_up time row = nat_le row.entry.deadline time

-- a side of the connection has been silent for too long at this time, or was before
abbrev pub is_silent : ℕ → HopRow → Bool
is_silent time row = is_past time row.up_deadline || is_past time row.down_deadline

-- something is due at this time, or was before
abbrev pub is_any_due : ℕ → List PendingRow → List HopRow → Bool
is_any_due time pendings connections =
    list_any (is_given_up time) pendings || list_any (is_silent time) connections

-- a tick of so many milliseconds: where the clock has room for it, time goes by and nothing else
abbrev pub IsStill : Shown → ℕ → Type 0
IsStill s milliseconds =
    IfSome (table_step s.config s.state (events.Tick milliseconds)) (λ after. after ≡ record {
      state = record (s.state) { now = s.state.now + 1000 * milliseconds };
      outputs = [];
    })

-- a tick of so many milliseconds: where the clock has room for it, something comes out
abbrev pub Happens : Shown → ℕ → Type 0
Happens s milliseconds =
    IfSome (table_step s.config s.state (events.Tick milliseconds)) (λ after. after.outputs ≢ [])

-- something is due once a tick of so many milliseconds has gone by, wherever the clock ends
abbrev pub is_due_after : Shown → ℕ → Bool
is_due_after s milliseconds = is_due_at (s.state.now + 1000 * milliseconds) s.state

-- Something waits: at some time it is due.
abbrev pub Waits : Shown → Type 0
Waits s = (time : ℕ) × (is_due_at time s.state ≡ true)

-- The shortest tick at which something happens: the least number of milliseconds, from 1, after
-- which something is due. A tick of this length puts it out; or the clock has no room for such a
-- tick, and then the routing table has no step.
pub record IsSoonest (s : Shown) (milliseconds : ℕ) : Type 0 where
  pub some : 0 < milliseconds
  pub due : is_due_after s milliseconds ≡ true
  pub not_yet : (shorter : ℕ) → 0 < shorter → shorter < milliseconds
      → is_due_after s shorter ≡ false
  pub before : (shorter : ℕ) → 0 < shorter → shorter < milliseconds → IsStill s shorter
  pub then_ : Happens s milliseconds
  pub past_the_end : 2 ^ 63 ≤ s.state.now + 1000 * milliseconds
      → table_step s.config s.state (events.Tick milliseconds) ≡ None

abbrev pub IsDeviceSoonest : Option Shown → ℕ → Type 0
IsDeviceSoonest (Some s) milliseconds = IsSoonest s milliseconds
IsDeviceSoonest None milliseconds = ⊥

abbrev pub DeviceWaits : Option Shown → Type 0
DeviceWaits (Some s) = Waits s
DeviceWaits None = ⊥

-- no tick does anything
abbrev pub IsAtRest : Option Shown → Type 0
IsAtRest (Some s) = (milliseconds : ℕ) → IsStill s milliseconds
IsAtRest None = ⊥

-- what is answered to who asks how long nothing happens: 0 exactly where something waits, and then
-- exactly so long; 1 exactly where there is no device; 7 else, where no tick does anything; and
-- nothing else
abbrev pub IsDeadlineAnswer : ℕ → Option Shown → ℕ → Type 0
IsDeadlineAnswer result old milliseconds =
    (result ≡ 0 → IsDeviceSoonest old milliseconds) × ((result ≡ 1) ↔ (old ≡ None))
    × (result ≡ 7 → IsAtRest old) × ((result ≡ 0) ↔ DeviceWaits old) × IsDeadlineStatus result
