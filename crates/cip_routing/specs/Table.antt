-- The routing table: what a module does at each event.
use Rattle.std.specs.Prelude.{ℕ, ◌+◌, ◌*◌, ◌/◌, ◌%◌, ◌^◌, nat_lt, Bool, true, false, if◌then◌else◌, Option, Some, None, Result, Ok, Err, List, [], ◌∷◌, ◌++◌}
use Rattle.std.specs.Prelude.{map, length}
use Rattle.std.specs.FinMap as finite
use Rattle.cip_base.specs.Words.{ConnectionId, InstanceNumber, LinkAddress, Microseconds, Octets, OpNumber, PortIdentifier, RequestNumber}
use Rattle.cip_base.specs.declared.timing.Timing.{Timing}
pub use Rattle.cip_base.specs.Timings.{one_less}
use Rattle.cip_base.specs.declared.triad.Triad.{Triad}
use Rattle.cip_close.specs.declared.request.TheConstants.{CLOSE_FIXED_PART}
use Rattle.cip_open.specs.Kinds.{open_fixed_part}
use Rattle.cip_clock.specs.Times.{ticks_us}
use Rattle.cip_message.specs.declared.fault.DataFault.{DataFault}
use Rattle.cip_unconnected.specs.Unconnected.{Unconnected}
pub use Rattle.cip_unconnected.specs.GoesOn.{message_on}
use Rattle.cip_unconnected.specs.UnconnectedAt.{unconnected_at, route_words_of}
use Rattle.cip_unconnected.specs.declared.fault.UnconnectedFault.{UnconnectedFault}
use Rattle.cip_open.specs.Open.{Open}
pub use Rattle.cip_open.specs.GoesOn.{open_on}
use Rattle.cip_open.specs.OpenAt.{open_at, open_triad_of, open_words_of}
use Rattle.cip_open.specs.Success.{open_reply_bytes}
use Rattle.cip_open.specs.Failed.{open_failure_bytes}
use Rattle.cip_close.specs.Close.{Close}
pub use Rattle.cip_close.specs.GoesOn.{close_on}
use Rattle.cip_close.specs.CloseAt.{close_at, close_triad_of, close_words_of}
use Rattle.cip_close.specs.Success.{close_reply_bytes}
use Rattle.cip_close.specs.Failed.{close_failure_bytes}
use Rattle.cip_pending.specs.declared.entry.Entry.{Entry}
use Rattle.cip_pending.specs.declared.entry.UpSide.{UpSide}
use Rattle.cip_pending.specs.declared.entry.UpSide.TheVariants.{Link, Local}
use Rattle.cip_pending.specs.declared.entry.Kind.TheVariants.{Unconnected as UnconnectedKind, Closing as ClosingKind}
use Rattle.cip_pending.specs.Pendings.{Pendings, due}
use Rattle.cip_hops.specs.declared.opening.HopUp.{HopUp}
use Rattle.cip_hops.specs.declared.opening.HopUp.TheVariants.{Link as UpLink, Local as UpLocal}
use Rattle.cip_hops.specs.declared.opening.HopDown.TheVariants.{Link as DownLink}
use Rattle.cip_hops.specs.declared.hop.Hop.{Hop}
use Rattle.cip_hops.specs.declared.hop.Side.{Side}
use Rattle.cip_hops.specs.declared.hop.Side.TheVariants.{Up, Down}
use Rattle.cip_hops.specs.Hops.{Hops, hop_by_op}
use Rattle.cip_hops.specs.Hops as hops
use Rattle.cip_target.specs.declared.identity.IdentityFields.{IdentityFields}
use Rattle.cip_target.specs.Assemblies.{size_in}
use Rattle.cip_config.specs.declared.config.ModuleSettings.{ModuleSettings}
use Rattle.cip_event.specs.declared.event.LargeParams.{LargeParams}
use Rattle.cip_event.specs.Params.{widened}
use Rattle.cip_event.specs.declared.event.Event.{Event}
use Rattle.cip_event.specs.declared.event.Event.TheVariants as events
use Rattle.cip_event.specs.declared.event.Command.{Command}
use Rattle.cip_event.specs.declared.event.Command.TheVariants as commands
use Rattle.cip_event.specs.declared.event.Body.{Body}
use Rattle.cip_event.specs.declared.event.Body.TheVariants as bodies
use Rattle.cip_event.specs.declared.event.Output.{Output}
use Rattle.cip_event.specs.declared.event.Refused.TheVariants as refused
use Rattle.cip_event.specs.declared.event.Dropped.TheVariants as dropped
use Rattle.cip_routing.specs.CommandRows.{CommandRow}
use Rattle.cip_routing.specs.CommandRows as command
use Rattle.cip_routing.specs.Answers.{failure_bytes, unconnected_failure, failed_unread, open_failed, close_failed}
use Rattle.cip_routing.specs.Statuses.{request_status, open_status, close_status}
use Rattle.cip_routing.specs.RequestRows.{RequestRow, request_row}
use Rattle.cip_routing.specs.RequestRows as request
use Rattle.cip_routing.specs.ReplyRows.{ReplyRow, reply_row}
use Rattle.cip_routing.specs.ReplyRows as reply
use Rattle.cip_routing.specs.DataRows.{DataRow, data_row}
use Rattle.cip_routing.specs.DataRows as datum
use Rattle.cip_routing.specs.CommandRows.{op_row, close_command_row, send_row, enter_row, set_row, produce_row}
use Rattle.cip_routing.specs.UnconnectedRows.{UnconnectedRow, unconnected_row}
use Rattle.cip_routing.specs.UnconnectedRows as unconnected
use Rattle.cip_routing.specs.OpenRows.{OpenRow, open_row, opening_with, end_down}
use Rattle.cip_routing.specs.OpenRows as opens
use Rattle.cip_routing.specs.CloseRows.{CloseRow, close_row}
use Rattle.cip_routing.specs.CloseRows as closes
use Rattle.cip_routing.specs.Effects.{Sending, Effect, Spends, Replies, Answers, Forwards, Begins, Accepts, Finishes, Takes, PendingTimesOut, Removes}
use Rattle.cip_routing.specs.Effects.{HopTimesOut, Renews, Passes, Counts, Writes, RefusesCommand, Drops, Advances, applied, outputs_of}
use Rattle.cip_routing.specs.Produced.{produced_effects}
use Rattle.cip_routing.specs.State.{State}

-- how long the reply may take: 2^t times the ticks, in milliseconds, as microseconds
abbrev pub wait_of : Timing → ℕ
wait_of timing = ticks_us (timing.tick % 16) timing.ticks

abbrev pub words_of : Octets → ℕ
words_of path = length path / 2

-- what a command does uses its op up first
abbrev pub with_spending : UpSide → List Effect → List Effect
with_spending (Link port address number) es = es
with_spending (Local op) es = Spends op ∷ es

-- ---- unconnected send

abbrev pub send_below : UpSide → Unconnected → PortIdentifier → LinkAddress → Octets → Sending
send_below up u port address rest = record {
  up = up;
  port = port;
  address = address;
  bytes = message_on u rest;
  wait = wait_of u.timing;
  words = words_of u.route;
}

abbrev pub unconnected_effects : UpSide → Unconnected → UnconnectedRow → List Effect
unconnected_effects up u (unconnected.Refuses refusal) =
    Replies up (unconnected_failure refusal (Some (words_of u.route))) ∷ []
unconnected_effects up u (unconnected.AnsweredHere embedded) = Answers up embedded ∷ []
unconnected_effects up u (unconnected.Forwarded port address rest) =
    Forwards (send_below up u port address rest) UnconnectedKind ∷ []

-- an Unconnected_Send by its data: where it cannot be read, the words are the route size byte, if
-- it is there
abbrev pub unconnected_data_effects : ModuleSettings → State → UpSide → Octets
    → Result Unconnected UnconnectedFault → List Effect
unconnected_data_effects config s up sent (Err fault) =
    Replies up (unconnected_failure (unconnected.unread_row sent fault) (route_words_of sent)) ∷ []
unconnected_data_effects config s up sent (Ok u) =
    unconnected_effects up u (unconnected_row config s.pendings u)

-- ---- open

-- the up side of a connection: the device that asked, which is sent data under its own T→O id, or
-- the op of a command
abbrev pub up_side_of : UpSide → ConnectionId → HopUp
up_side_of (Link port address number) to_id = UpLink port address to_id
up_side_of (Local op) to_id = UpLocal op

-- the success of an end: its own up id as O→T id, the intervals as they were asked, no application
-- reply
abbrev pub accepted_bytes : Open → ℕ → Octets
accepted_bytes o up_id = open_reply_bytes o.fields.large (record {
  ot_id = up_id;
  to_id = o.fields.to_id;
  triad = o.fields.triad;
  ot_api = o.fields.ot_rpi;
  to_api = o.fields.to_rpi;
  reply = [];
})

abbrev pub open_below : State → UpSide → Open → PortIdentifier → LinkAddress → Octets → Sending
open_below s up o port address rest = record {
  up = up;
  port = port;
  address = address;
  bytes = open_on o s.hops.next rest;
  wait = wait_of o.fields.timing;
  words = words_of o.path;
}

abbrev pub open_effects : State → UpSide → Open → OpenRow → List Effect
open_effects s up o (opens.Refuses refusal) =
    Replies up
    (open_failed o.fields.large (open_status refusal) o.fields.triad (words_of o.path)) ∷ []
open_effects s up o (opens.Forwarded port address rest) =
    Begins (open_below s up o port address rest)
    (opening_with (up_side_of up o.fields.to_id) (DownLink port address) o) ∷ []
open_effects s up o (opens.Accepted link) =
    Accepts (opening_with (up_side_of up o.fields.to_id) (end_down link) o) o link
    ∷ Replies up (accepted_bytes o s.hops.next) ∷ []

-- where the fixed part is cut, the failure tells nothing; else the triad and the path size byte
abbrev pub unread_open_bytes : Bool → Octets → DataFault → Octets
unread_open_bytes large d fault =
    open_failure_bytes large (open_status (opens.unread_row large d fault))
    (if nat_lt (length d) (open_fixed_part large) then failed_unread
    else record { triad = open_triad_of d; words = open_words_of large d })

abbrev pub open_data_effects : ModuleSettings → State → UpSide → Bool → Octets
    → Result Open DataFault → List Effect
open_data_effects config s up large d (Err fault) =
    Replies up (unread_open_bytes large d fault) ∷ []
open_data_effects config s up large d (Ok o) =
    open_effects s up o (open_row config s (up_side_of up o.fields.to_id) o)

-- ---- close

abbrev pub close_below : UpSide → Close → PortIdentifier → LinkAddress → Octets → Sending
close_below up c port address rest = record {
  up = up;
  port = port;
  address = address;
  bytes = close_on c rest;
  wait = wait_of c.fields.timing;
  words = words_of c.path;
}

abbrev pub close_effects : UpSide → Close → CloseRow → List Effect
close_effects up c (closes.Refuses refusal) =
    Replies up (close_failed (close_status refusal) c.fields.triad (words_of c.path)) ∷ []
close_effects up c (closes.Forwarded port address rest) =
    Removes c.fields.triad
    ∷ Forwards (close_below up c port address rest) (ClosingKind c.fields.triad) ∷ []
close_effects up c closes.ClosedAtTheEnd =
    Removes c.fields.triad ∷ Replies up
    (close_reply_bytes (record { triad = c.fields.triad; reply = [] })) ∷ []

abbrev pub unread_close_bytes : Octets → DataFault → Octets
unread_close_bytes d fault =
    if nat_lt (length d) CLOSE_FIXED_PART then
    close_failure_bytes (close_status (closes.unread_row d fault))
    failed_unread
    else close_failure_bytes (close_status (closes.unread_row d fault))
    (record { triad = close_triad_of d; words = close_words_of d })

abbrev pub close_data_effects : State → UpSide → Octets → Result Close DataFault → List Effect
close_data_effects s up d (Err fault) = Replies up (unread_close_bytes d fault) ∷ []
close_data_effects s up d (Ok c) = close_effects up c (close_row s up c)

-- ---- any request

abbrev pub request_effects : ModuleSettings → State → UpSide → RequestRow → List Effect
request_effects config s up request.UnknownPortOrTooLong = Drops dropped.Malformed ∷ []
request_effects config s up request.NotARequest = Drops dropped.Malformed ∷ []
request_effects config s up (request.Refuses service refusal) =
    Replies up (failure_bytes service (request_status refusal)) ∷ []
request_effects config s up (request.UnconnectedSend d) =
    unconnected_data_effects config s up d (unconnected_at d)
request_effects config s up (request.ForwardOpen large d) =
    open_data_effects config s up large d (open_at large d)
request_effects config s up (request.ForwardClose d) = close_data_effects s up d (close_at d)
request_effects config s up (request.Target asked) = Answers up asked ∷ []

-- ---- replies

abbrev pub reply_effects : RequestNumber → Octets → ReplyRow → List Effect
reply_effects number bytes reply.UnknownPortOrTooLong = Drops dropped.Malformed ∷ []
reply_effects number bytes reply.Late = Drops dropped.Late ∷ []
reply_effects number bytes reply.MalformedForItsKind = Drops dropped.Malformed ∷ []
reply_effects number bytes (reply.OpenSucceeded triad success) =
    Finishes number triad bytes success ∷ []
reply_effects number bytes reply.PassedUp = Takes number bytes ∷ []

-- ---- data

abbrev pub other : Side → Side
other Up = Down
other Down = Up

-- the count is kept where there is one
abbrev pub counts : Triad → Option ℕ → List Effect
counts triad None = []
counts triad (Some count) = Counts triad Up count ∷ []

abbrev pub datum_effects : Octets → DataRow → List Effect
datum_effects bytes datum.UnknownId = Drops dropped.UnknownId ∷ []
datum_effects bytes datum.WrongSize = Drops dropped.WrongSize ∷ []
datum_effects bytes (datum.PassedOn triad side) =
    Passes triad (other side) bytes ∷ Renews triad side ∷ []
datum_effects bytes (datum.Consumed triad instance count written) =
    Passes triad Down bytes ∷ Renews triad Up ∷ Writes instance written ∷ counts triad count
datum_effects bytes (datum.Repeated triad) = Passes triad Down bytes ∷ Renews triad Up ∷ []
datum_effects bytes (datum.Arrived triad) = Passes triad Up bytes ∷ Renews triad Down ∷ []

abbrev pub frame_effects : ModuleSettings → State → PortIdentifier → LinkAddress → Body
    → List Effect
frame_effects config s port from (bodies.Request number bytes) =
    request_effects config s (Link port from number) (request_row config port bytes)
frame_effects config s port from (bodies.Reply number bytes) =
    reply_effects number bytes (reply_row config s port from number bytes)
frame_effects config s port from (bodies.Data id bytes) =
    datum_effects bytes (data_row config s port from id bytes)

-- ---- commands

-- A command that is taken is handled as the request that it spells, with its op as the up side.
abbrev pub refused_effects : CommandRow → List Effect → List Effect
refused_effects command.OpUsed es = RefusesCommand refused.OpUsed ∷ []
refused_effects command.NotOpen es = RefusesCommand refused.NotOpen ∷ []
refused_effects command.ReservedService es = RefusesCommand refused.ReservedService ∷ []
refused_effects command.WrongSize es = RefusesCommand refused.WrongSize ∷ []
refused_effects command.NoInstance es = RefusesCommand refused.NoInstance ∷ []
refused_effects command.Taken es = es

-- the Unconnected_Send that a Send spells
abbrev pub sent : Timing → Octets → Octets → Unconnected
sent timing path asked = record { timing = timing; request = asked; route = path }

-- the open, large or not, that a command spells, with the vendor and the serial number of the
-- module's identity; the O→T id is the target's to choose
abbrev pub open_of : IdentityFields → Bool → Timing → Octets → LargeParams → Open
open_of identity large timing path params = record {
  fields = record {
    timing = timing;
    ot_id = 0;
    to_id = 0;
    triad = record {
      serial = params.serial;
      vendor = identity.vendor;
      originator =
          identity.serial;
    };
    multiplier = params.multiplier;
    ot_rpi = params.ot_rpi;
    ot_params = params.ot_params;
    to_rpi = params.to_rpi;
    to_params = params.to_params;
    transport = params.transport;
    large = large;
  };
  path = path;
}

-- the open that a command asks for, and its op
abbrev pub asked_open : IdentityFields → Command → Option (OpNumber × Open)
asked_open identity (commands.Open op timing path params) =
    Some (op, open_of identity false timing path (widened params))
asked_open identity (commands.LargeOpen op timing path params) =
    Some (op, open_of identity true timing path params)
asked_open identity (commands.Close op of timing) = None
asked_open identity (commands.Send op timing path asked) = None
asked_open identity (commands.Enter of bytes) = None
asked_open identity (commands.Set instance bytes) = None
asked_open identity (commands.Produce instance) = None

-- the Forward_Close that a Close spells, with the path by which the connection was opened
abbrev pub close_of : Timing → Hop → Close
close_of timing hop = record {
  fields =
      record { timing = timing; triad = hop.opening.triad };
  path = hop.opening.path;
}

abbrev pub send_effects : ModuleSettings → State → OpNumber → Unconnected → CommandRow → List Effect
send_effects config s op u row = refused_effects row
    (with_spending (Local op) (unconnected_effects (Local op) u
    (unconnected_row config s.pendings u)))

abbrev pub open_command_effects : ModuleSettings → State → OpNumber → Open → List Effect
open_command_effects config s op o =
    refused_effects (op_row s op) (with_spending (Local op)
    (open_effects s (Local op) o (open_row config s (UpLocal op) o)))

-- the request is the up side's own: the op that opened
abbrev pub closed_effects : State → OpNumber → OpNumber → Timing → Option Hop → List Effect
closed_effects s op of timing None = []
closed_effects s op of timing (Some hop) =
    with_spending (Local op) (close_effects (Local op) (close_of timing hop)
    (close_row s (Local of) (close_of timing hop)))

abbrev pub close_command_effects : State → OpNumber → OpNumber → Timing → List Effect
close_command_effects s op of timing =
    refused_effects (close_command_row s op of)
    (closed_effects s op of timing (hop_by_op s.hops of))

abbrev pub entered_effects : Octets → Option Hop → List Effect
entered_effects bytes None = []
entered_effects bytes (Some hop) = Passes hop.opening.triad Down bytes ∷ []

abbrev pub enter_effects : Octets → Option Hop → List Effect
enter_effects bytes hop = refused_effects (enter_row bytes hop) (entered_effects bytes hop)

abbrev pub set_effects : State → InstanceNumber → Octets → List Effect
set_effects s instance bytes = refused_effects (set_row bytes (size_in s.assemblies instance))
    (Writes instance bytes ∷ [])

abbrev pub made_effects : State → InstanceNumber → Option (List ℕ) → List Effect
made_effects s instance None = []
made_effects s instance (Some held) = produced_effects instance held s.hops

abbrev pub produce_effects : State → InstanceNumber → Option (List ℕ) → List Effect
produce_effects s instance held = refused_effects (produce_row held) (made_effects s instance held)

abbrev pub command_effects : ModuleSettings → State → Command → List Effect
command_effects config s (commands.Open op timing path params) =
    open_command_effects config s op (open_of config.identity false timing path (widened params))
command_effects config s (commands.LargeOpen op timing path params) =
    open_command_effects config s op (open_of config.identity true timing path params)
command_effects config s (commands.Close op of timing) = close_command_effects s op of timing
command_effects config s (commands.Send op timing path asked) =
    send_effects config s op (sent timing path asked) (send_row s op (sent timing path asked))
command_effects config s (commands.Enter of bytes) = enter_effects bytes (hop_by_op s.hops of)
command_effects config s (commands.Set instance bytes) = set_effects s instance bytes
command_effects config s (commands.Produce instance) =
    produce_effects s instance (finite.get s.assemblies instance)

-- ---- ticks

abbrev pub pending_times_out : ℕ × Entry → Effect
pending_times_out waiting = PendingTimesOut waiting.0

abbrev pub hop_times_out : Hop → Effect
hop_times_out hop = HopTimesOut hop.opening.triad

-- the due pendings, in rising number
abbrev pub pending_time_outs : Microseconds → Pendings → List Effect
pending_time_outs now p = map pending_times_out (due now p)

-- then the due connections, in rising triad
abbrev pub hop_time_outs : Microseconds → Hops → List Effect
hop_time_outs now h = map hop_times_out (hops.due now h)

-- the clock is raised first
abbrev pub tick_effects : State → Microseconds → List Effect
tick_effects s by = Advances by ∷ pending_time_outs (s.now + by) s.pendings
    ++ hop_time_outs (s.now + by) s.hops

-- ---- the step

-- the effects of an event, in order; undefined for a tick alone, where the time would pass its last
-- value
abbrev pub decide : ModuleSettings → State → Event → Option (List Effect)
decide config s (events.Command command) = Some (command_effects config s command)
decide config s (events.Frame port from body) = Some (frame_effects config s port from body)
decide config s (events.Tick ms) = if nat_lt (s.now + 1000 * ms) (2 ^ 63) then
    Some (tick_effects s (1000 * ms)) else None

pub record Stepped : Type 0 where
  pub state : State
  pub outputs : List Output

abbrev pub after_effects : ModuleSettings → State → Option (List Effect) → Option Stepped
after_effects config s None = None
after_effects config s (Some es) = Some
    (record { state = applied config s es; outputs = outputs_of config s es })

-- the written routing table
abbrev pub table_step : ModuleSettings → State → Event → Option Stepped
table_step config s event = after_effects config s (decide config s event)
