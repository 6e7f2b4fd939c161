-- How a state is shown.
use Rattle.std.specs.Prelude.{◌≡◌, ℕ, ◌+◌, Bool, ◌&&◌, List, [], Option, Some, None, map, filter_map}
use Rattle.std.specs.FinMap as finite
use Rattle.cip_base.specs.Words.{ConnectionId, LinkAddress, OpNumber, PortIdentifier}
use Rattle.cip_base.specs.declared.triad.Triad.{Triad}
use Rattle.cip_pending.specs.declared.entry.Entry.{Entry}
use Rattle.cip_hops.specs.declared.hop.Hop.{Hop}
use Rattle.cip_hops.specs.declared.hop.Held.{Held}
use Rattle.cip_hops.specs.declared.hop.Held.TheVariants.{Opening as IsOpening, Open}
use Rattle.cip_hops.specs.Hops.{as_hop, is_id}
use Rattle.cip_hops.specs.Sides.{op_of, up_is}
use Rattle.cip_config.specs.declared.config.ModuleSettings.{ModuleSettings}
use Rattle.cip_routing.specs.declared.tables.PendingRow.{PendingRow}
use Rattle.cip_routing.specs.declared.tables.HopRow.{HopRow}
use Rattle.cip_routing.specs.declared.tables.AssemblyRow.{AssemblyRow}
use Rattle.cip_routing.specs.declared.tables.Tables.{Tables}
use Rattle.cip_routing.specs.Paired.{IsOther}
use Rattle.cip_routing.specs.Rising.{IsRising}
use Rattle.cip_routing.specs.State.{State}

abbrev pub row_of : ℕ × Entry → PendingRow
row_of waiting = record { number = waiting.0; entry = waiting.1 }

abbrev pub hop_row_of : Hop → HopRow
hop_row_of hop = record {
  triad = hop.opening.triad;
  up = hop.opening.up;
  down = hop.opening.down;
  ids = hop.ids;
  their_id = hop.their_id;
  path = hop.opening.path;
  ot_size = hop.opening.ot_size;
  to_size = hop.opening.to_size;
  ot_rpi = hop.opening.ot_rpi;
  to_rpi = hop.opening.to_rpi;
  class = hop.opening.class;
  up_deadline = hop.up_deadline;
  down_deadline = hop.down_deadline;
}

-- the row is that of the connection that a command of this op opened
abbrev pub is_row_by_op : OpNumber → HopRow → Bool
is_row_by_op op row = is_id op (op_of row.up)

-- the row is that of the connection of which this is the own id towards the originator, on the link
-- by this port to this address
abbrev pub is_row_by_up : ConnectionId → PortIdentifier → LinkAddress → HopRow → Bool
is_row_by_up id port address row = is_id id row.ids.up && up_is port address row.up

abbrev pub assembly_row_of : ℕ × List ℕ → AssemblyRow
assembly_row_of held = record { instance = held.0; bytes = held.1 }

-- the assemblies as they are shown, in rising instance
abbrev pub assemblies_of : State → List AssemblyRow
assemblies_of s = map assembly_row_of (finite.entries s.assemblies)

pub record ShowsState (s : State) (tables : Tables) : Type 0 where
  pub now : tables.now ≡ s.now
  pub last_id : tables.last_id + 1 ≡ s.hops.next
  pub last_number : tables.last_number + 1 ≡ s.pendings.next
  pub pendings : tables.pendings ≡ map row_of (finite.entries s.pendings.entries)
  pub hops : tables.hops ≡ map hop_row_of
      (filter_map (λ e. as_hop e.1) (finite.entries s.hops.held))
  pub assemblies : tables.assemblies ≡ assemblies_of s
  pub ops : tables.ops ≡ s.ops
  pub rising : IsRising tables.ops

-- ---- tables as at the beginning

pub record HasFirstCounts (config : ModuleSettings) (tables : Tables) : Type 0 where
  pub now : tables.now ≡ config.clock
  pub last_id : tables.last_id + 1 ≡ config.first_id
  pub last_number : tables.last_number + 1 ≡ config.first_number

pub record HoldsNothing (tables : Tables) : Type 0 where
  pub pendings : tables.pendings ≡ []
  pub hops : tables.hops ≡ []
  pub ops : tables.ops ≡ []

-- ---- two states with one view

-- opening in both, or open in both with the same row
abbrev pub HeldAlike : Held → Held → Type 0
HeldAlike (IsOpening o ids) (IsOpening p own) = Unit {0}
HeldAlike (IsOpening o ids) (Open hop) = ⊥
HeldAlike (Open hop) (IsOpening o ids) = ⊥
HeldAlike (Open g) (Open h) = hop_row_of g ≡ hop_row_of h

-- nothing in both, or two that are alike
abbrev pub SlotsAlike : Option Held → Option Held → Type 0
SlotsAlike None None = Unit {0}
SlotsAlike None (Some y) = ⊥
SlotsAlike (Some x) None = ⊥
SlotsAlike (Some x) (Some y) = HeldAlike x y

-- What a view tells: all of a state but its connections; which triads are opening and which are
-- open; and of what is open its row.
pub record LooksAlike (s t : State) : Type 0 where
  pub now : s.now ≡ t.now
  pub pendings : s.pendings ≡ t.pendings
  pub room : s.hops.room ≡ t.hops.room
  pub id : s.hops.next ≡ t.hops.next
  pub held : (q : Triad) → SlotsAlike (finite.get s.hops.held q) (finite.get t.hops.held q)
  pub assemblies : s.assemblies ≡ t.assemblies
  pub ops : s.ops ≡ t.ops

-- no connection is shown, and no request that waits opens one
pub record ShowsNone (s : State) (tables : Tables) : Type 0 where
  pub hops : tables.hops ≡ []
  pub pendings : (n : ℕ) (p : Entry) → finite.get s.pendings.entries n ≡ Some p → IsOther p.kind
