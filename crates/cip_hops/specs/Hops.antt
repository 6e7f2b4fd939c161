-- What a table of hops is: a room, the next id, and a finite map from triads to openings and hops.
use Rattle.std.specs.Prelude.{◌≡◌, ℕ, ◌+◌, ◌^◌, ◌<◌, ◌≤◌, Bool, true, false, not, ◌&&◌, ◌||◌, ◌==◌, List, Option, Some, None, Result, Ok, Err, nat_le, nat_lt}
use Rattle.std.specs.Prelude.{is_some, MatchOption, if◌then◌else◌, find, filter, filter_map, option_and_then}
use Rattle.std.specs.Option.{option_map_or}
use Rattle.std.specs.Ordering.{is_lt}
use Rattle.std.specs.FinMap as map
use Rattle.cip_base.specs.Triads.{triad_cmp}
use Rattle.cip_base.specs.Words.{LinkAddress, PortIdentifier, ConnectionId, OpNumber, Microseconds}
use Rattle.cip_base.specs.declared.triad.Triad.{Triad}
use Rattle.cip_base.specs.declared.limits.TheConstants.{LAST_COUNT, LAST_INCARNATION}
use Rattle.cip_base.specs.Counts.{counts_given, incarnation, reborn}
use Rattle.cip_clock.specs.Times.{watchdog_us}
use Rattle.cip_hops.specs.declared.opening.Opening.{Opening}
use Rattle.cip_hops.specs.declared.opening.OwnIds.{OwnIds}
use Rattle.cip_hops.specs.declared.opening.BeginReason.{BeginReason}
use Rattle.cip_hops.specs.declared.opening.BeginReason.TheVariants.{Duplicate, Full, IdsSpent}
use Rattle.cip_hops.specs.declared.opening.BeginFault.{BeginFault}
use Rattle.cip_hops.specs.declared.opening.BeginFault.TheVariants.{Duplicate as DuplicateOf, Full as FullFor, IdsSpent as SpentFor}
use Rattle.cip_hops.specs.declared.hop.Hop.{Hop}
use Rattle.cip_hops.specs.declared.hop.Side.{Side}
use Rattle.cip_hops.specs.declared.hop.Side.TheVariants.{Up, Down}
use Rattle.cip_hops.specs.declared.hop.Held.{Held}
use Rattle.cip_hops.specs.declared.hop.Held.TheVariants.{Opening as IsOpening, Open}
use Rattle.cip_hops.specs.Sides.{up_is_link, down_is_link, op_of, up_is, down_is, ids_drawn, own_ids}

pub record Hops : Type 0 where
  pub room : ℕ
  pub next : ℕ
  pub held : map.FinMap triad_cmp Held

-- ---- what stands under a triad

abbrev pub opening_of : Held → Opening
opening_of (IsOpening o ids) = o
opening_of (Open hop) = hop.opening

abbrev pub ids_of : Held → OwnIds
ids_of (IsOpening o ids) = ids
ids_of (Open hop) = hop.ids

abbrev pub as_opening : Held → Option Opening
as_opening (IsOpening o ids) = Some o
as_opening (Open hop) = None

abbrev pub as_hop : Held → Option Hop
as_hop (IsOpening o ids) = None
as_hop (Open hop) = Some hop

abbrev pub triad_of : Held → Triad
triad_of x = (opening_of x).triad

abbrev pub up_id_of : Held → Option ConnectionId
up_id_of x = (ids_of x).up

abbrev pub down_id_of : Held → Option ConnectionId
down_id_of x = (ids_of x).down

abbrev pub held_op_of : Held → Option OpNumber
held_op_of x = op_of (opening_of x).up

abbrev pub opening_at : Hops → Triad → Option Opening
opening_at h triad = option_and_then as_opening (map.get h.held triad)

abbrev pub hop_at : Hops → Triad → Option Hop
hop_at h triad = option_and_then as_hop (map.get h.held triad)

abbrev pub without : Hops → Triad → Hops
without h triad = record { room = h.room; next = h.next; held = map.remove h.held triad }

-- without it, where it goes
abbrev pub without_if : Bool → Hops → Triad → Hops
without_if goes h triad = if goes then without h triad else h

-- ---- an opening

-- why an opening is not taken, in this order: spent are the counts of this incarnation
abbrev pub refusal : Hops → Triad → ℕ → Option BeginReason
refusal h triad ids =
    if is_some (map.get h.held triad) then Some Duplicate
    else (if nat_le h.room (map.len h.held) then Some Full
    else (if nat_lt LAST_COUNT (counts_given h.next + ids) then Some IdsSpent else None))

abbrev pub fault_of : BeginReason → Opening → BeginFault
fault_of Duplicate o = DuplicateOf o
fault_of Full o = FullFor o
fault_of IdsSpent o = SpentFor o

abbrev pub unless_refused : Option BeginReason → ℕ → Opening → Result OwnIds BeginFault
unless_refused None next o = Ok (own_ids next o)
unless_refused (Some reason) next o = Err (fault_of reason o)

abbrev pub begin_gives : Hops → Opening → Result OwnIds BeginFault
begin_gives h o = unless_refused (refusal h o.triad (ids_drawn o)) h.next o

abbrev pub begun : Hops → Opening → Hops
begun h o = record {
  room = h.room;
  next = h.next + ids_drawn o;
  held = map.insert h.held o.triad (IsOpening o (own_ids h.next o));
}

-- no command of this op is held
pub record IsOpFree (h : Hops) (up : Option OpNumber) : Type 0 where
  pub differs : (triad : Triad) (x : Held) (op : OpNumber)
      → map.get h.held triad ≡ Some x → up ≡ Some op → held_op_of x ≡ Some op → ⊥

-- ---- a reset

-- there is an incarnation after this
abbrev pub has_next_incarnation : Hops → Bool
has_next_incarnation h = nat_lt (incarnation h.next) LAST_INCARNATION

-- without openings and hops, at count 1 of the next incarnation
abbrev pub reset : Hops → Hops
reset h = record { room = h.room; next = reborn h.next; held = map.empty }

-- ---- a hop

abbrev pub watched : Bool → Microseconds → Microseconds → ℕ → Option Microseconds
watched is_link now rpi multiplier =
    if is_link then Some (now + watchdog_us rpi multiplier) else None

-- an opening with the other side's id, watched from now on
abbrev pub opened : Opening → OwnIds → ConnectionId → Microseconds → Hop
opened o ids their_id now = record {
  opening = o;
  ids = ids;
  their_id = if down_is_link o.down then Some their_id else None;
  up_deadline = watched (up_is_link o.up) now o.ot_rpi o.multiplier;
  down_deadline = watched (down_is_link o.down) now o.to_rpi o.multiplier;
  consumed = None;
  produced = None;
}

-- with this under its triad
abbrev pub with_held : Hops → Triad → Held → Hops
with_held h triad x = record { room = h.room; next = h.next; held = map.insert h.held triad x }

abbrev pub with_hop : Hops → Triad → Hop → Hops
with_hop h triad hop = with_held h triad (Open hop)

abbrev pub open_in : Hops → Triad → ConnectionId → Microseconds → Option Held → Hops
open_in h triad their_id now None = h
open_in h triad their_id now (Some (Open hop)) = h
open_in h triad their_id now (Some (IsOpening o ids)) = with_hop h triad (opened o ids their_id now)

abbrev pub finished : Hops → Triad → ConnectionId → Microseconds → Hops
finished h triad their_id now = open_in h triad their_id now (map.get h.held triad)

-- with its hop changed
abbrev pub change_in : Hops → Triad → (Hop → Hop) → Option Hop → Hops
change_in h triad change None = h
change_in h triad change (Some hop) = with_hop h triad (change hop)

abbrev pub changed : Hops → Triad → (Hop → Hop) → Hops
changed h triad change = change_in h triad change (hop_at h triad)

abbrev pub is_link : Side → Hop → Bool
is_link Up hop = up_is_link hop.opening.up
is_link Down hop = down_is_link hop.opening.down

-- its target is this module
abbrev pub ends_here : Hop → Bool
ends_here hop = not (down_is_link hop.opening.down)

-- that side is watched anew from now on
abbrev pub touched : Side → Microseconds → Hop → Hop
touched Up now hop = record hop {
  up_deadline = Some (now + watchdog_us hop.opening.ot_rpi hop.opening.multiplier);
}
touched Down now hop = record hop {
  down_deadline = Some (now + watchdog_us hop.opening.to_rpi hop.opening.multiplier);
}

-- up the count of the last datum that was consumed, down that of the last that was produced
abbrev pub counted : Side → ℕ → Hop → Hop
counted Up count hop = record hop { consumed = Some count }
counted Down count hop = record hop { produced = Some count }

-- ---- hops by their names

abbrev pub is_id : ConnectionId → Option ConnectionId → Bool
is_id id own = option_map_or (λ n. n == id) own false

abbrev pub is_hop_by_up : ConnectionId → PortIdentifier → LinkAddress → Hop → Bool
is_hop_by_up id port address hop = is_id id hop.ids.up && up_is port address hop.opening.up

abbrev pub is_hop_by_down : ConnectionId → PortIdentifier → LinkAddress → Hop → Bool
is_hop_by_down id port address hop = is_id id hop.ids.down && down_is port address hop.opening.down

abbrev pub is_hop_by_op : OpNumber → Hop → Bool
is_hop_by_op op hop = is_id op (op_of hop.opening.up)

abbrev pub is_hop : (Hop → Bool) → Held → Bool
is_hop test x = option_map_or test (as_hop x) false

-- the first hop that passes a test, in rising triad
abbrev pub first_hop : (Hop → Bool) → Hops → Option Hop
first_hop test h =
    option_and_then (λ e. as_hop e.1) (find (λ e. is_hop test e.1) (map.entries h.held))

-- the hop of which this is the own id towards the originator, on the link by this port to this
-- address
abbrev pub hop_by_up : Hops → ConnectionId → PortIdentifier → LinkAddress → Option Hop
hop_by_up h id port address = first_hop (is_hop_by_up id port address) h

-- the same towards the target
abbrev pub hop_by_down : Hops → ConnectionId → PortIdentifier → LinkAddress → Option Hop
hop_by_down h id port address = first_hop (is_hop_by_down id port address) h

-- the hop that a command of this op opened
abbrev pub hop_by_op : Hops → OpNumber → Option Hop
hop_by_op h op = first_hop (is_hop_by_op op) h

-- the hop under this triad has this id, as its own towards the originator or towards the target
pub record HasId (id_of : Held → Option ConnectionId) (h : Hops) (id : ConnectionId)
    (triad : Triad) : Type 0 where
  pub hop : Hop
  pub stands : hop_at h triad ≡ Some hop
  pub named : id_of (Open hop) ≡ Some id

abbrev pub is_past : Microseconds → Option Microseconds → Bool
is_past now deadline = option_map_or (λ time. nat_le time now) deadline false

-- either side has been silent for too long
abbrev pub is_timed_out : Microseconds → Hop → Bool
is_timed_out now hop = is_past now hop.up_deadline || is_past now hop.down_deadline

abbrev pub is_hop_due : Microseconds → Held → Bool
is_hop_due now x = is_hop (is_timed_out now) x

abbrev pub is_entry_due : Microseconds → Triad × Held → Bool
is_entry_due now e = is_hop_due now e.1

abbrev pub is_entry_open : Triad × Held → Bool
is_entry_open e = is_some (as_hop e.1)

-- the due hop of the least triad
abbrev pub first_due : Microseconds → Hops → Option Hop
first_due now h = first_hop (is_timed_out now) h

-- without the hop that went, if one did
abbrev pub IsWithout : Option Hop → Hops → Hops → Type 0
IsWithout gone h new = MatchOption gone (new ≡ h) (λ hop. new ≡ without h hop.opening.triad)

-- all that are due, in rising triad
abbrev pub due : Microseconds → Hops → List Hop
due now h = filter_map (λ e. as_hop e.1) (filter (λ e. is_hop_due now e.1) (map.entries h.held))

-- and all else that is held
abbrev pub rest : Microseconds → Hops → List (Triad × Held)
rest now h = filter (λ e. not (is_hop_due now e.1)) (map.entries h.held)

abbrev pub is_after : Option Triad → Triad → Bool
is_after None triad = true
is_after (Some last) triad = is_lt (triad_cmp last triad)

-- the hop of the least triad above
abbrev pub first_after : Option Triad → Hops → Option Hop
first_after after h = first_hop (λ hop. is_after after hop.opening.triad) h

-- ---- what every table keeps

-- a hop has an id, a deadline and another's id for each side that is a link, and counts at an end
-- alone
pub record IsHop (hop : Hop) : Type 0 where
  pub their_id : is_some hop.their_id ≡ down_is_link hop.opening.down
  pub up_deadline : is_some hop.up_deadline ≡ up_is_link hop.opening.up
  pub down_deadline : is_some hop.down_deadline ≡ down_is_link hop.opening.down
  pub consumed : down_is_link hop.opening.down ≡ true → hop.consumed ≡ None
  pub produced : down_is_link hop.opening.down ≡ true → hop.produced ≡ None

pub record IsHeld (next : ℕ) (x : Held) : Type 0 where
  pub multiplier : (opening_of x).multiplier < 8
  pub up : is_some (ids_of x).up ≡ up_is_link (opening_of x).up
  pub down : is_some (ids_of x).down ≡ down_is_link (opening_of x).down
  pub up_below : (id : ℕ) → up_id_of x ≡ Some id → id < next
  pub down_below : (id : ℕ) → down_id_of x ≡ Some id → id < next
  pub open_ : (hop : Hop) → as_hop x ≡ Some hop → IsHop hop

-- where two bear the same number they are one
abbrev pub TellsApart : (Held → Option ℕ) → Hops → Type 0
TellsApart number_of h =
    (a b : Triad) (x y : Held) (n : ℕ) → map.get h.held a ≡ Some x → map.get h.held b ≡ Some y
    → number_of x ≡ Some n → number_of y ≡ Some n → a ≡ b

-- each connection stands under its own triad
abbrev pub AreOwnTriads : Hops → Type 0
AreOwnTriads h =
    (triad : Triad) (x : Held) → map.get h.held triad ≡ Some x → triad_of x ≡ triad

-- each stands under its own triad, below the next id, and shares no id and no op with another
pub record IsWithin (h : Hops) : Type 0 where
  pub some : 0 < h.next
  pub spent : h.next ≤ 2 ^ 32
  pub fits : map.len h.held ≤ h.room
  pub triads : AreOwnTriads h
  pub each : (triad : Triad) (x : Held) → map.get h.held triad ≡ Some x → IsHeld h.next x
  pub ups : TellsApart up_id_of h
  pub downs : TellsApart down_id_of h
  pub ops : TellsApart held_op_of h
  pub apart : (a b : Triad) (x y : Held) (id : ConnectionId)
      → map.get h.held a ≡ Some x → map.get h.held b ≡ Some y
      → up_id_of x ≡ Some id → down_id_of y ≡ Some id → ⊥
