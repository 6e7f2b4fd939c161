-- What a row does: a list of effects. An effect carries keys and bytes, and looks records up in the
-- state where it is applied.
use Rattle.std.specs.Prelude.{ℕ, ◌+◌, ◌==◌, ◌&&◌, not, true, false, if◌then◌else◌, List, [], ◌∷◌, ◌++◌, Bool, Option, Some, None, is_some, length}
use Rattle.std.specs.Option.{option_map_or}
use Rattle.std.specs.FinMap as map
use Rattle.cip_base.specs.Words.{InstanceNumber, LinkAddress, Microseconds, Octets, OpNumber, PortIdentifier, RequestNumber, WordCount}
use Rattle.cip_base.specs.declared.triad.Triad.{Triad}
use Rattle.cip_pending.specs.declared.entry.UpSide.{UpSide}
use Rattle.cip_pending.specs.declared.entry.UpSide.TheVariants.{Link, Local}
use Rattle.cip_pending.specs.declared.entry.Kind.{Kind}
use Rattle.cip_pending.specs.declared.entry.Kind.TheVariants.{Unconnected, Opening as OpeningOf, OpeningLarge as LargeOf, Closing as ClosingOf}
use Rattle.cip_pending.specs.Kinds.{opened_triad, opening_kind, is_large_kind}
use Rattle.cip_pending.specs.declared.entry.Entry.{Entry}
use Rattle.cip_pending.specs.Pendings.{Pendings, added, without}
use Rattle.cip_hops.specs.declared.opening.HopUp.{HopUp}
use Rattle.cip_hops.specs.declared.opening.HopUp.TheVariants.{Link as UpLink, Local as UpLocal}
use Rattle.cip_hops.specs.declared.opening.HopDown.{HopDown}
use Rattle.cip_hops.specs.declared.opening.HopDown.TheVariants.{Link as DownLink, End}
use Rattle.cip_hops.specs.declared.opening.Opening.{Opening}
use Rattle.cip_hops.specs.declared.opening.OwnIds.{OwnIds}
use Rattle.cip_hops.specs.declared.hop.Hop.{Hop}
use Rattle.cip_hops.specs.declared.hop.Held.{Held}
use Rattle.cip_hops.specs.declared.hop.Side.{Side}
use Rattle.cip_hops.specs.declared.hop.Side.TheVariants.{Up, Down}
use Rattle.cip_hops.specs.Hops.{Hops, begun, finished, opening_at, hop_at, opening_of, ids_of, changed, is_link, touched, counted}
use Rattle.cip_hops.specs.Sides.{down_is_link}
use Rattle.cip_hops.specs.Hops as hops
use Rattle.cip_message.specs.Request.{Request}
use Rattle.cip_message.specs.Reply.{Reply, reply_bytes}
use Rattle.cip_open.specs.Open.{Open}
use Rattle.cip_open.specs.Success.{OpenSuccess}
use Rattle.cip_open.specs.GoesOn.{success_with}
use Rattle.cip_target.specs.declared.link.EndLink.{EndLink}
use Rattle.cip_target.specs.Assemblies.{AssemblyMap, size_in}
use Rattle.cip_target.specs.Rows.{plain_reply}
use Rattle.cip_target.specs.Objects.{Objects, reads_reset, target_answer, target_after}
use Rattle.cip_target.specs.Ends.{configured}
use Rattle.cip_config.specs.declared.config.ModuleSettings.{ModuleSettings}
use Rattle.cip_event.specs.declared.event.Body.TheVariants as bodies
use Rattle.cip_event.specs.declared.event.Output.{Output}
use Rattle.cip_event.specs.declared.event.Output.TheVariants as outputs
use Rattle.cip_event.specs.declared.event.Refused.{Refused}
use Rattle.cip_event.specs.declared.event.Dropped.{Dropped}
use Rattle.cip_routing.specs.declared.refusals.LinkRefusal.TheVariants.{TicksSpent}
use Rattle.cip_routing.specs.Statuses.{link_status}
use Rattle.cip_routing.specs.Answers.{unconnected_failed, open_failed, close_failed}
use Rattle.cip_routing.specs.State.{State, spent_with}
use Rattle.cip_routing.specs.Resets.{can_reset, reset_state, held_ops, all_ended}

-- what goes on by a link, and what waits for its reply: whom the reply goes to, the port and the
-- address below, the bytes, how long the reply may take, and the words of the path as received
pub record Sending : Type 0 where
  pub up : UpSide
  pub port : PortIdentifier
  pub address : LinkAddress
  pub bytes : Octets
  pub wait : Microseconds
  pub words : WordCount

pub data Effect : Type 0 where
  -- an op is used up
  Spends : (op : OpNumber) → Effect
  -- a reply goes to whom a request came from
  Replies : (up : UpSide) → (bytes : Octets) → Effect
  -- the module's own objects answer a request; a reset that they read resets the module
  Answers : (up : UpSide) → (request : Request) → Effect
  -- a request goes on under the next number, and waits for its reply
  Forwards : (sending : Sending) → (kind : Kind) → Effect
  -- a connection is opening: it draws its ids, and the request that opens what is below goes on
  Begins : (sending : Sending) → (opening : Opening) → Effect
  -- a connection ends here: it draws its id, is open, and its configuration bytes are written
  Accepts : (opening : Opening) → (open_ : Open) → (link : EndLink) → Effect
  -- the connection of this triad, which was opening, is open; the reply goes up
  Finishes : (number : RequestNumber) → (triad : Triad) → (bytes : Octets) → (success : OpenSuccess)
      → Effect
  -- a pending gets this reply; what it was opening is abandoned
  Takes : (number : RequestNumber) → (bytes : Octets) → Effect
  -- the time of a pending ran out; what it was opening is abandoned
  PendingTimesOut : (number : RequestNumber) → Effect
  -- the connection is closed
  Removes : (triad : Triad) → Effect
  -- the connection was silent for too long
  HopTimesOut : (triad : Triad) → Effect
  -- that side of the connection is watched anew from now on
  Renews : (triad : Triad) → (came_by : Side) → Effect
  -- a datum goes on by that side of the connection
  Passes : (triad : Triad) → (leaves_by : Side) → (bytes : Octets) → Effect
  -- the count of the last datum, consumed (up) or produced (down)
  Counts : (triad : Triad) → (counted : Side) → (count : ℕ) → Effect
  -- an assembly gets these bytes
  Writes : (instance : InstanceNumber) → (bytes : Octets) → Effect
  -- a command is refused
  RefusesCommand : (fault : Refused) → Effect
  -- a frame is dropped
  Drops : (reason : Dropped) → Effect
  -- the clock is raised by so many microseconds
  Advances : (by : Microseconds) → Effect

-- ---- the state after an effect

abbrev pub entry_for : State → Sending → Kind → Entry
entry_for s sending kind = record {
  up = sending.up;
  port = sending.port;
  address = sending.address;
  deadline = s.now + sending.wait;
  words = sending.words;
  kind = kind;
}

abbrev pub waiting_with : State → Sending → Kind → Pendings
waiting_with s sending kind = added s.pendings (entry_for s sending kind)

-- the module's objects: its identity, and its assemblies as they stand
abbrev pub objects_of : ModuleSettings → State → Objects
objects_of config s = record { identity = config.identity; assemblies = s.assemblies }

-- a request that the objects read as a reset, for which there is an incarnation or none
abbrev pub resets : ModuleSettings → State → Request → Bool
resets config s r = reads_reset (objects_of config s) r && can_reset s

abbrev pub lacks_incarnation : ModuleSettings → State → Request → Bool
lacks_incarnation config s r = reads_reset (objects_of config s) r && not (can_reset s)

-- the answer of the module's own objects; to a reset without an incarnation left 0C, object state
-- conflict (Volume 1, Appendix B)
abbrev pub here_answer : ModuleSettings → State → Request → Reply
here_answer config s r = if lacks_incarnation config s r then plain_reply r.service 0x0C []
    else target_answer (objects_of config s) r

abbrev pub answered_state : Bool → ModuleSettings → State → Request → State
answered_state true config s r = reset_state s
answered_state false config s r =
    record s { assemblies = (target_after (objects_of config s) r).assemblies }

-- without what was opening, and without what was open
abbrev pub abandoned : Hops → Triad → Hops
abandoned h triad = if is_some (opening_at h triad) then hops.without h triad else h

abbrev pub removed : Hops → Triad → Hops
removed h triad = if is_some (hop_at h triad) then hops.without h triad else h

-- the kind of the request that waits for what this opens
abbrev pub kind_for : Opening → Kind
kind_for opening = opening_kind opening.large opening.triad

-- a pending that was opening a connection takes it along
abbrev pub abandoned_if : Option Triad → Hops → Hops
abandoned_if None h = h
abandoned_if (Some triad) h = abandoned h triad

abbrev pub given_up_of : Kind → Hops → Hops
given_up_of kind h = abandoned_if (opened_triad kind) h

abbrev pub given_up : Option Entry → Hops → Hops
given_up None h = h
given_up (Some entry) h = given_up_of entry.kind h

-- a side that is no link is not watched
abbrev pub renewed : Hops → Triad → Side → Microseconds → Hops
renewed h triad side now = if option_map_or (is_link side) (hop_at h triad) false then
    changed h triad (touched side now) else h

-- an end alone counts
abbrev pub ends_here : Hop → Bool
ends_here hop = not (down_is_link hop.opening.down)

abbrev pub recounted : Hops → Triad → Side → ℕ → Hops
recounted h triad side count = if option_map_or ends_here (hop_at h triad) false then
    changed h triad (counted side count) else h

-- an assembly keeps its size
abbrev pub overwritten : AssemblyMap → ℕ → List ℕ → AssemblyMap
overwritten m i b = if option_map_or (λ size. size == length b) (size_in m i) false then
    map.insert m i b else m

abbrev pub apply : ModuleSettings → State → Effect → State
apply config s (Spends op) = record s { ops = spent_with op s.ops }
apply config s (Replies up bytes) = s
apply config s (Answers up request) = answered_state (resets config s request) config s request
apply config s (Forwards sending kind) = record s { pendings = waiting_with s sending kind }
apply config s (Begins sending opening) = record s {
  pendings = waiting_with s sending (kind_for opening);
  hops = begun s.hops opening;
}
apply config s (Accepts opening open_ link) =
    record s {
      hops = finished (begun s.hops opening) opening.triad 0 s.now;
      assemblies =
          configured s.assemblies open_ link;
    }
apply config s (Finishes number triad bytes success) =
    record s {
      pendings = without s.pendings number;
      hops =
          finished s.hops triad success.ot_id s.now;
    }
apply config s (Takes number bytes) =
    record s {
      pendings = without s.pendings number;
      hops =
          given_up (map.get s.pendings.entries number) s.hops;
    }
apply config s (PendingTimesOut number) =
    record s {
      pendings = without s.pendings number;
      hops =
          given_up (map.get s.pendings.entries number) s.hops;
    }
apply config s (Removes triad) = record s { hops = removed s.hops triad }
apply config s (HopTimesOut triad) = record s { hops = removed s.hops triad }
apply config s (Renews triad side) = record s { hops = renewed s.hops triad side s.now }
apply config s (Passes triad side bytes) = s
apply config s (Counts triad side count) = record s { hops = recounted s.hops triad side count }
apply config s (Writes instance bytes) =
    record s { assemblies = overwritten s.assemblies instance bytes }
apply config s (RefusesCommand fault) = s
apply config s (Drops reason) = s
apply config s (Advances by) = record s { now = s.now + by }

-- ---- the outputs of an effect

-- a request to the device below, under the next number
abbrev pub request_below : State → Sending → Output
request_below s sending =
    outputs.Send sending.port sending.address (bodies.Request s.pendings.next sending.bytes)

-- a reply to whom the request came from: by a link with the number that it had there, or to this
-- module's own command
abbrev pub reply_up : UpSide → Octets → Output
reply_up (Link port address number) bytes = outputs.Send port address (bodies.Reply number bytes)
reply_up (Local op) bytes = outputs.Done op bytes

-- a success as it goes up, of an open that is large or not: with the own up id, and the T→O id of
-- the device above; a command gets the bytes as received
abbrev pub success_up : Bool → HopUp → OwnIds → Octets → OpenSuccess → Octets
success_up large (UpLink port address their_id) ids bytes success =
    success_with large success (option_map_or (λ id. id) ids.up 0) their_id
success_up large (UpLocal op) ids bytes success = bytes

abbrev pub succeeded : Bool → Option Held → Octets → OpenSuccess → Octets
succeeded large None bytes success = bytes
succeeded large (Some x) bytes success =
    success_up large (opening_of x).up (ids_of x) bytes success

-- whether a large open waits
abbrev pub waits_large : Option Entry → Bool
waits_large p = option_map_or (λ entry. is_large_kind entry.kind) p false

-- the success of the request of this number as it goes up
abbrev pub succeeded_at : State → RequestNumber → Triad → Octets → OpenSuccess → Octets
succeeded_at s number triad bytes success =
    succeeded (waits_large (map.get s.pendings.entries number)) (map.get s.hops.held triad)
    bytes success

abbrev pub replied : Option Entry → Octets → List Output
replied None bytes = []
replied (Some entry) bytes = reply_up entry.up bytes ∷ []

-- no answer came in time, with the words of the path as received
abbrev pub timed_out_bytes : Kind → WordCount → Octets
timed_out_bytes Unconnected words = unconnected_failed (link_status TicksSpent) (Some words)
timed_out_bytes (OpeningOf triad) words = open_failed false (link_status TicksSpent) triad words
timed_out_bytes (LargeOf triad) words = open_failed true (link_status TicksSpent) triad words
timed_out_bytes (ClosingOf triad) words = close_failed (link_status TicksSpent) triad words

abbrev pub timed_out_reply : Option Entry → List Output
timed_out_reply None = []
timed_out_reply (Some entry) = reply_up entry.up (timed_out_bytes entry.kind entry.words) ∷ []

-- a datum by the up side: to the device above under its id, or to the command that opened
abbrev pub datum_up : HopUp → Octets → Output
datum_up (UpLink port address their_id) bytes =
    outputs.Send port address (bodies.Data their_id bytes)
datum_up (UpLocal op) bytes = outputs.Arrived op bytes

-- a datum by the down side: to the device below under its id, or to an assembly here
abbrev pub datum_down : Hop → HopDown → Octets → Output
datum_down hop (DownLink port address) bytes =
    outputs.Send port address (bodies.Data (option_map_or (λ id. id) hop.their_id 0) bytes)
datum_down hop (End config consume produce) bytes = outputs.Consumed hop.opening.triad consume bytes

abbrev pub datum_by : Side → Hop → Octets → Output
datum_by Up hop bytes = datum_up hop.opening.up bytes
datum_by Down hop bytes = datum_down hop hop.opening.down bytes

abbrev pub passed : Side → Option Hop → Octets → List Output
passed side None bytes = []
passed side (Some hop) bytes = datum_by side hop bytes ∷ []

-- a reset ends what this module's commands asked for and opened, in rising op
abbrev pub ended_by : Bool → State → List Output
ended_by true s = all_ended (held_ops s)
ended_by false s = []

abbrev pub output_of : ModuleSettings → State → Effect → List Output
output_of config s (Spends op) = []
output_of config s (Replies up bytes) = reply_up up bytes ∷ []
output_of config s (Answers up request) =
    reply_up up (reply_bytes (here_answer config s request)) ∷ ended_by (resets config s request) s
output_of config s (Forwards sending kind) = request_below s sending ∷ []
output_of config s (Begins sending opening) = request_below s sending ∷ []
output_of config s (Accepts opening open_ link) = []
output_of config s (Finishes number triad bytes success) =
    replied (map.get s.pendings.entries number) (succeeded_at s number triad bytes success)
output_of config s (Takes number bytes) = replied (map.get s.pendings.entries number) bytes
output_of config s (PendingTimesOut number) = timed_out_reply (map.get s.pendings.entries number)
output_of config s (Removes triad) = []
output_of config s (HopTimesOut triad) = outputs.Expired triad ∷ []
output_of config s (Renews triad side) = []
output_of config s (Passes triad side bytes) = passed side (hop_at s.hops triad) bytes
output_of config s (Counts triad side count) = []
output_of config s (Writes instance bytes) = []
output_of config s (RefusesCommand fault) = outputs.Refused fault ∷ []
output_of config s (Drops reason) = outputs.Dropped reason ∷ []
output_of config s (Advances by) = []

-- ---- effects in turn

abbrev pub applied : ModuleSettings → State → List Effect → State
applied config s [] = s
applied config s (e ∷ es) = applied config (apply config s e) es

abbrev pub outputs_of : ModuleSettings → State → List Effect → List Output
outputs_of config s [] = []
outputs_of config s (e ∷ es) = output_of config s e ++ outputs_of config (apply config s e) es
