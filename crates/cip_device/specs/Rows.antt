-- What C is told of the connections that are open and of the requests that wait.
use Rattle.std.specs.Prelude.{◌≡◌, ◌↔◌, ℕ, List, Option, Some, None, length, take, map, filter_map, slice_get}
use Rattle.std.specs.Option.{option_map_or}
use Rattle.std.specs.FinMap as finite
use Rattle.cip_base.specs.Words.{Octets}
use Rattle.cip_base.specs.declared.triad.Triad.{Triad}
use Rattle.cip_hops.specs.Hops.{as_hop}
use Rattle.cip_hops.specs.declared.opening.HopUp.{HopUp}
use Rattle.cip_hops.specs.declared.opening.HopUp.TheVariants as ups
use Rattle.cip_hops.specs.declared.opening.HopDown.{HopDown}
use Rattle.cip_hops.specs.declared.opening.HopDown.TheVariants as downs
use Rattle.cip_pending.specs.declared.entry.Kind.{Kind}
use Rattle.cip_pending.specs.declared.entry.Kind.TheVariants as kinds
use Rattle.cip_pending.specs.declared.entry.UpSide.{UpSide}
use Rattle.cip_pending.specs.declared.entry.UpSide.TheVariants as sides
use Rattle.cip_routing.specs.State.{State}
use Rattle.cip_routing.specs.Views.{hop_row_of, row_of}
use Rattle.cip_routing.specs.declared.tables.HopRow.{HopRow}
use Rattle.cip_routing.specs.declared.tables.PendingRow.{PendingRow}
use Rattle.cip_device.specs.Shown.{Shown}
use Rattle.cip_device.specs.Statuses.{IsTableStatus}
use Rattle.cip_device.specs.declared.rows.CipConnectionRow.{CipConnectionRow}
use Rattle.cip_device.specs.declared.rows.CipPendingRow.{CipPendingRow}
use Rattle.cip_device.specs.declared.rows.CipSide.{CipSide}

-- the connections that are open, in rising triad
abbrev pub connections_of : State → List HopRow
connections_of s = map hop_row_of (filter_map (λ e. as_hop e.1) (finite.entries s.hops.held))

-- the requests that wait, in rising number
abbrev pub pendings_of : State → List PendingRow
pendings_of s = map row_of (finite.entries s.pendings.entries)

abbrev pub or_zero : Option ℕ → ℕ
or_zero number = option_map_or (λ n. n) number 0

-- ---- sides

-- a node by this port at this address, the first so many of the sixteen bytes
abbrev pub IsLinkSide : ℕ → Octets → ℕ → CipSide → Type 0
IsLinkSide port address number side =
    (side.is_link ≡ 1) × (side.number ≡ number) × (side.port ≡ port)
    × (side.address_length ≡ length address) × (take (length address) side.address ≡ address)

-- this device itself
abbrev pub IsOwnSide : ℕ → CipSide → Type 0
IsOwnSide number side =
    (side.is_link ≡ 0) × (side.number ≡ number) × (side.port ≡ 0) × (side.address_length ≡ 0)

abbrev pub IsUp : HopUp → CipSide → Type 0
IsUp (ups.Link port address their_id) side = IsLinkSide port address their_id side
IsUp (ups.Local op) side = IsOwnSide op side

abbrev pub IsDown : HopDown → Option ℕ → CipSide → Type 0
IsDown (downs.Link port address) their_id side = IsLinkSide port address (or_zero their_id) side
IsDown (downs.End config consume produce) their_id side = IsOwnSide 0 side

abbrev pub IsWaiting : UpSide → CipSide → Type 0
IsWaiting (sides.Link port address number) side = IsLinkSide port address number side
IsWaiting (sides.Local op) side = IsOwnSide op side

-- ---- connections

-- the assemblies of a connection that ends here
abbrev pub AreEnds : HopDown → CipConnectionRow → Type 0
AreEnds (downs.Link port address) out =
    (out.configuration ≡ 0) × (out.consumed ≡ 0) × (out.produced ≡ 0)
AreEnds (downs.End config consume produce) out =
    (out.configuration ≡ config) × (out.consumed ≡ consume) × (out.produced ≡ produce)

-- all of a connection but its path
pub record IsConnection (row : HopRow) (out : CipConnectionRow) : Type 0 where
  pub serial : out.serial ≡ row.triad.serial
  pub vendor : out.vendor ≡ row.triad.vendor
  pub originator : out.originator ≡ row.triad.originator
  pub up : IsUp row.up out.up
  pub down : IsDown row.down row.their_id out.down
  pub up_id : out.up_id ≡ or_zero row.ids.up
  pub down_id : out.down_id ≡ or_zero row.ids.down
  pub ends : AreEnds row.down out
  pub ot_size : out.ot_size ≡ row.ot_size
  pub to_size : out.to_size ≡ row.to_size
  pub ot_rpi : out.ot_rpi ≡ row.ot_rpi
  pub to_rpi : out.to_rpi ≡ row.to_rpi
  pub transport_class : out.transport_class ≡ row.class
  pub up_deadline : out.up_deadline ≡ or_zero row.up_deadline
  pub down_deadline : out.down_deadline ≡ or_zero row.down_deadline

-- the connection at this place is told
abbrev pub IsConnectionAt : Shown → ℕ → CipConnectionRow → Type 0
IsConnectionAt s at out =
    (row : HopRow) × (slice_get (connections_of s.state) at ≡ Some row) × IsConnection row out

abbrev pub IsDeviceConnection : Option Shown → ℕ → CipConnectionRow → Type 0
IsDeviceConnection (Some s) at out = IsConnectionAt s at out
IsDeviceConnection None at out = ⊥

-- no connection stands at this place, nor at any later one
abbrev pub NoConnectionAt : Option Shown → ℕ → Type 0
NoConnectionAt (Some s) at = slice_get (connections_of s.state) at ≡ None
NoConnectionAt None at = ⊥

-- what is answered to who asks for the connection at a place, counted from 0: 0 it was told; 1
-- exactly where there is no device, 7 only past the last one; 5 in place of 0 and 7, and nothing
-- else
abbrev pub IsConnectionAnswer : ℕ → Option Shown → ℕ → CipConnectionRow → Type 0
IsConnectionAnswer result old at out =
    (result ≡ 0 → IsDeviceConnection old at out) × ((result ≡ 1) ↔ (old ≡ None))
    × (result ≡ 7 → NoConnectionAt old at) × IsTableStatus result

-- ---- requests that wait

abbrev pub kind_of_pending : Kind → ℕ
kind_of_pending kinds.Unconnected = 1
kind_of_pending (kinds.Opening triad) = 2
kind_of_pending (kinds.OpeningLarge triad) = 3
kind_of_pending (kinds.Closing triad) = 4

abbrev pub triad_of_kind : Kind → Triad
triad_of_kind kinds.Unconnected = record { serial = 0; vendor = 0; originator = 0 }
triad_of_kind (kinds.Opening triad) = triad
triad_of_kind (kinds.OpeningLarge triad) = triad
triad_of_kind (kinds.Closing triad) = triad

-- all of a request that waits but the words of its path
pub record IsPending (row : PendingRow) (out : CipPendingRow) : Type 0 where
  pub deadline : out.deadline ≡ row.entry.deadline
  pub kind : out.kind ≡ kind_of_pending row.entry.kind
  pub serial : out.serial ≡ (triad_of_kind row.entry.kind).serial
  pub vendor : out.vendor ≡ (triad_of_kind row.entry.kind).vendor
  pub originator : out.originator ≡ (triad_of_kind row.entry.kind).originator
  pub up : IsWaiting row.entry.up out.up
  pub down : IsLinkSide row.entry.port row.entry.address row.number out.down

-- the request at this place is told
abbrev pub IsPendingAt : Shown → ℕ → CipPendingRow → Type 0
IsPendingAt s at out =
    (row : PendingRow) × (slice_get (pendings_of s.state) at ≡ Some row) × IsPending row out

abbrev pub IsDevicePending : Option Shown → ℕ → CipPendingRow → Type 0
IsDevicePending (Some s) at out = IsPendingAt s at out
IsDevicePending None at out = ⊥

-- no request waits at this place, nor at any later one
abbrev pub NoPendingAt : Option Shown → ℕ → Type 0
NoPendingAt (Some s) at = slice_get (pendings_of s.state) at ≡ None
NoPendingAt None at = ⊥

-- what is answered to who asks for the request at a place, in the same way
abbrev pub IsPendingAnswer : ℕ → Option Shown → ℕ → CipPendingRow → Type 0
IsPendingAnswer result old at out =
    (result ≡ 0 → IsDevicePending old at out) × ((result ≡ 1) ↔ (old ≡ None))
    × (result ≡ 7 → NoPendingAt old at) × IsTableStatus result
