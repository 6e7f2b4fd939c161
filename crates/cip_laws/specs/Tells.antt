-- The routing table read backwards: what each effect of an event tells of the event, and of the
-- state before it.
use Rattle.std.specs.Prelude.{◌≡◌, ℕ, ◌+◌, ◌*◌, ◌^◌, ◌≤◌, ◌<◌, ◌==◌, ◌⊎◌, true, false, if◌then◌else◌, Option, Some, None, Ok, Err, List, [], ◌∷◌, drop, length}
use Rattle.std.specs.Prelude.{Bool}
use Rattle.std.specs.FinMap as map
use Rattle.cip_base.specs.Words.{ConnectionId, InstanceNumber, LinkAddress, Microseconds, Milliseconds, Octets, OpNumber, PortIdentifier, RequestNumber}
use Rattle.cip_base.specs.declared.timing.Timing.{Timing}
use Rattle.cip_base.specs.declared.triad.Triad.{Triad}
use Rattle.cip_open.specs.Kinds.{open_reply_service}
use Rattle.cip_segment.specs.Reading.{HopAt, hop_of}
use Rattle.cip_message.specs.Numbers.{word_in}
use Rattle.cip_message.specs.Request.{Request}
use Rattle.cip_message.specs.RequestAt.{request_at}
use Rattle.cip_message.specs.Reply.{Reply}
use Rattle.cip_message.specs.ReplyAt.{reply_at}
use Rattle.cip_message.specs.declared.fault.DataFault.{DataFault}
use Rattle.cip_unconnected.specs.Unconnected.{Unconnected}
use Rattle.cip_unconnected.specs.UnconnectedAt.{unconnected_at, route_words_of}
use Rattle.cip_unconnected.specs.declared.fault.UnconnectedFault.{UnconnectedFault}
use Rattle.cip_open.specs.Open.{Open}
use Rattle.cip_open.specs.OpenAt.{open_at}
use Rattle.cip_open.specs.Success.{OpenSuccess}
use Rattle.cip_open.specs.SuccessAt.{open_reply_at}
use Rattle.cip_close.specs.Close.{Close}
use Rattle.cip_close.specs.CloseAt.{close_at}
use Rattle.cip_close.specs.Success.{close_reply_bytes}
use Rattle.cip_pending.specs.declared.entry.UpSide.{UpSide}
use Rattle.cip_pending.specs.declared.entry.UpSide.TheVariants.{Link, Local}
use Rattle.cip_pending.specs.declared.entry.Kind.{Kind}
use Rattle.cip_pending.specs.declared.entry.Kind.TheVariants.{Unconnected as UnconnectedKind, Closing as ClosingKind}
use Rattle.cip_pending.specs.Kinds.{opened_triad, is_large_kind}
use Rattle.cip_pending.specs.declared.entry.Entry.{Entry}
use Rattle.cip_pending.specs.Pendings.{waiting_at}
use Rattle.cip_hops.specs.declared.opening.Opening.{Opening}
use Rattle.cip_hops.specs.declared.opening.HopDown.TheVariants.{Link as DownLink, End}
use Rattle.cip_hops.specs.declared.hop.Hop.{Hop}
use Rattle.cip_hops.specs.declared.hop.Side.{Side}
use Rattle.cip_hops.specs.declared.hop.Side.TheVariants.{Up, Down}
use Rattle.cip_hops.specs.Sides.{up_is_link}
use Rattle.cip_hops.specs.Hops.{Hops, refusal, hop_at, hop_by_up, hop_by_down, hop_by_op, is_timed_out}
use Rattle.cip_target.specs.declared.link.EndLink.{EndLink}
use Rattle.cip_target.specs.Assemblies.{size_in}
use Rattle.cip_target.specs.Ends.{end_row}
use Rattle.cip_config.specs.declared.config.ModuleSettings.{ModuleSettings}
use Rattle.cip_event.specs.declared.event.Event.{Event}
use Rattle.cip_event.specs.declared.event.Event.TheVariants as events
use Rattle.cip_event.specs.declared.event.Command.{Command}
use Rattle.cip_event.specs.declared.event.Command.TheVariants as commands
use Rattle.cip_event.specs.declared.event.Body.{Body}
use Rattle.cip_event.specs.declared.event.Body.TheVariants as bodies
use Rattle.cip_event.specs.declared.event.Dropped.{Dropped}
use Rattle.cip_event.specs.declared.event.Dropped.TheVariants as dropped
use Rattle.cip_event.specs.declared.event.Refused.{Refused}
use Rattle.cip_event.specs.declared.event.Refused.TheVariants as refused
use Rattle.cip_routing.specs.CommandRows.{CommandRow}
use Rattle.cip_routing.specs.CommandRows as command_rows
use Rattle.cip_routing.specs.declared.refusals.RequestRefusal.{RequestRefusal}
use Rattle.cip_routing.specs.declared.refusals.UnconnectedRefusal.{UnconnectedRefusal}
use Rattle.cip_routing.specs.declared.refusals.OpenRefusal.{OpenRefusal}
use Rattle.cip_routing.specs.declared.refusals.CloseRefusal.{CloseRefusal}
use Rattle.cip_routing.specs.Answers.{failure_bytes, unconnected_failure, open_failed, close_failed}
use Rattle.cip_routing.specs.Statuses.{request_status, open_status, close_status}
use Rattle.cip_routing.specs.RequestRows.{RequestRow, request_row}
use Rattle.cip_routing.specs.RequestRows as request
use Rattle.cip_routing.specs.UnconnectedRows.{unconnected_row}
use Rattle.cip_routing.specs.UnconnectedRows as unconnected
use Rattle.cip_routing.specs.OpenRows.{open_row, opening_with, end_down, ids_if_forwarded, is_consumed}
use Rattle.cip_routing.specs.OpenRows as opens
use Rattle.cip_routing.specs.CloseRows.{close_row, is_sender}
use Rattle.cip_routing.specs.CloseRows as closes
use Rattle.cip_routing.specs.ReplyRows.{ReplyRow, PassedUp, kind_row, reply_row}
use Rattle.cip_routing.specs.ReplyRows as reply
use Rattle.cip_routing.specs.DataRows.{DataRow, is_last, data_row}
use Rattle.cip_routing.specs.DataRows as datum
use Rattle.cip_routing.specs.CommandRows.{op_row, close_command_row, send_row, enter_row, set_row, produce_row}
use Rattle.cip_routing.specs.Produced.{reads_from, next_count, datum_bytes}
use Rattle.cip_routing.specs.Effects.{Sending, Effect, Spends, Replies, Answers, Forwards, Begins, Accepts, Finishes, Takes, PendingTimesOut, Removes}
use Rattle.cip_routing.specs.Effects.{HopTimesOut, Renews, Passes, Counts, Writes, RefusesCommand, Drops, Advances}
use Rattle.cip_routing.specs.Table.{wait_of, words_of, message_on, up_side_of, open_on, accepted_bytes, close_on, unread_open_bytes, unread_close_bytes, sent}
use Rattle.cip_routing.specs.Table.{asked_open, close_of, other}
use Rattle.cip_routing.specs.State.{State, is_spent}
use Rattle.cip_routing.specs.Links.{LeadsOn}

-- ---- what an event asks, and whom the reply goes to

-- whom a reply goes to: where the request in a frame came from, under its number, or the op of a
-- command
abbrev pub command_asker : Command → Option UpSide
command_asker (commands.Open op timing path params) = Some (Local op)
command_asker (commands.LargeOpen op timing path params) = Some (Local op)
command_asker (commands.Close op of timing) = Some (Local op)
command_asker (commands.Send op timing path asked) = Some (Local op)
command_asker (commands.Enter of bytes) = None
command_asker (commands.Set instance bytes) = None
command_asker (commands.Produce instance) = None

abbrev pub body_asker : PortIdentifier → LinkAddress → Body → Option UpSide
body_asker port from (bodies.Request number bytes) = Some (Link port from number)
body_asker port from (bodies.Reply number bytes) = None
body_asker port from (bodies.Data id bytes) = None

abbrev pub asker : Event → Option UpSide
asker (events.Command command) = command_asker command
asker (events.Frame port from body) = body_asker port from body
asker (events.Tick ms) = None

-- a frame holds a request that meets this row; the reply goes to where it came from, under its
-- number
pub record Came (config : ModuleSettings) (event : Event) (up : UpSide) (row : RequestRow) : Type 0
  where
    pub port : PortIdentifier
    pub from : LinkAddress
    pub number : RequestNumber
    pub bytes : Octets
    pub event_is : event ≡ events.Frame port from (bodies.Request number bytes)
    pub up_is : up ≡ Link port from number
    pub meets : request_row config port bytes ≡ row

-- an Unconnected_Send, in a frame or spelled by a command
pub record SendCame (config : ModuleSettings) (event : Event) (up : UpSide) (u : Unconnected) : Type
    0 where
  pub asked : Octets
  pub came : Came config event up (request.UnconnectedSend asked)
  pub read : unconnected_at asked ≡ Ok u

pub record SendSpelled (s : State) (event : Event) (up : UpSide) (u : Unconnected) : Type 0 where
  pub op : OpNumber
  pub timing : Timing
  pub path : Octets
  pub asked : Octets
  pub event_is : event ≡ events.Command (commands.Send op timing path asked)
  pub up_is : up ≡ Local op
  pub spells : u ≡ sent timing path asked
  pub unused : is_spent op s.ops ≡ false

abbrev pub AsksSend : ModuleSettings → State → Event → UpSide → Unconnected → Type 0
AsksSend config s event up u = SendCame config event up u ⊎ SendSpelled s event up u

-- an open, large or not, in a frame or spelled by a command
pub record OpenCame (config : ModuleSettings) (event : Event) (up : UpSide) (o : Open) : Type 0
  where
    pub asked : Octets
    pub came : Came config event up (request.ForwardOpen o.fields.large asked)
    pub read : open_at o.fields.large asked ≡ Ok o

pub record OpenSpelled (config : ModuleSettings) (s : State) (event : Event) (up : UpSide)
    (o : Open) : Type 0 where
  pub op : OpNumber
  pub command : Command
  pub event_is : event ≡ events.Command command
  pub up_is : up ≡ Local op
  pub asks : asked_open config.identity command ≡ Some (op, o)
  pub unused : is_spent op s.ops ≡ false

abbrev pub AsksOpen : ModuleSettings → State → Event → UpSide → Open → Type 0
AsksOpen config s event up o = OpenCame config event up o ⊎ OpenSpelled config s event up o

-- a Forward_Close, in a frame or spelled by a command, and its sender: who asked, or the op that
-- opened
pub record CloseCame (config : ModuleSettings) (event : Event) (up sender : UpSide) (c : Close) :
    Type 0 where
  pub asked : Octets
  pub came : Came config event up (request.ForwardClose asked)
  pub read : close_at asked ≡ Ok c
  pub sender_is : sender ≡ up

pub record CloseSpelled (s : State) (event : Event) (up sender : UpSide) (c : Close) : Type 0 where
  pub op : OpNumber
  pub of : OpNumber
  pub timing : Timing
  pub hop : Hop
  pub event_is : event ≡ events.Command (commands.Close op of timing)
  pub up_is : up ≡ Local op
  pub sender_is : sender ≡ Local of
  pub opened : hop_by_op s.hops of ≡ Some hop
  pub spells : c ≡ close_of timing hop
  pub unused : is_spent op s.ops ≡ false

abbrev pub AsksClose : ModuleSettings → State → Event → UpSide → UpSide → Close → Type 0
AsksClose config s event up sender c =
    CloseCame config event up sender c ⊎ CloseSpelled s event up sender c

-- ---- requests

-- the op of a command that asks something is used up, for the first time
pub record SpendsAs (s : State) (event : Event) (op : OpNumber) : Type 0 where
  pub asks : asker event ≡ Some (Local op)
  pub unused : is_spent op s.ops ≡ false

-- a reply at once: a request that fails, or an open or a close that ends here
pub data RepliesAs (config : ModuleSettings) (s : State) (event : Event) (up : UpSide)
    (bytes : Octets) : Type 0 where
  RequestFails : (service : ℕ) (refusal : RequestRefusal)
      → Came config event up (request.Refuses service refusal)
      → bytes ≡ failure_bytes service (request_status refusal) → RepliesAs config s event up bytes
  SendUnread : (asked : Octets) (fault : UnconnectedFault)
      → Came config event up (request.UnconnectedSend asked) → unconnected_at asked ≡ Err fault
      → bytes ≡ unconnected_failure (unconnected.unread_row asked fault) (route_words_of asked)
      → RepliesAs config s event up bytes
  SendFails : (u : Unconnected) (refusal : UnconnectedRefusal) → AsksSend config s event up u
      → unconnected_row config s.pendings u ≡ unconnected.Refuses refusal
      → bytes ≡ unconnected_failure refusal (Some (words_of u.route))
      → RepliesAs config s event up bytes
  OpenUnread : (large : Bool) (asked : Octets) (fault : DataFault)
      → Came config event up (request.ForwardOpen large asked) → open_at large asked ≡ Err fault
      → bytes ≡ unread_open_bytes large asked fault → RepliesAs config s event up bytes
  OpenFails : (o : Open) (refusal : OpenRefusal) → AsksOpen config s event up o
      → open_row config s (up_side_of up o.fields.to_id) o ≡ opens.Refuses refusal
      → bytes
      ≡ open_failed o.fields.large (open_status refusal) o.fields.triad (words_of o.path)
      → RepliesAs config s event up bytes
  OpenEnds : (o : Open) (link : EndLink) → AsksOpen config s event up o
      → open_row config s (up_side_of up o.fields.to_id) o ≡ opens.Accepted link
      → bytes ≡ accepted_bytes o s.hops.next → RepliesAs config s event up bytes
  CloseUnread : (asked : Octets) (fault : DataFault)
      → Came config event up (request.ForwardClose asked) → close_at asked ≡ Err fault
      → bytes ≡ unread_close_bytes asked fault → RepliesAs config s event up bytes
  CloseFails : (sender : UpSide) (c : Close) (refusal : CloseRefusal)
      → AsksClose config s event up sender c → close_row s sender c ≡ closes.Refuses refusal
      → bytes ≡ close_failed (close_status refusal) c.fields.triad (words_of c.path)
      → RepliesAs config s event up bytes
  CloseEnds : (sender : UpSide) (c : Close) → AsksClose config s event up sender c
      → close_row s sender c ≡ closes.ClosedAtTheEnd
      → bytes ≡ close_reply_bytes (record { triad = c.fields.triad; reply = [] })
      → RepliesAs config s event up bytes

-- the target answers the request itself, or the one that an Unconnected_Send with no route left
-- holds
pub data AnswersAs (config : ModuleSettings) (s : State) (event : Event) (up : UpSide)
    (asked : Request) : Type 0 where
  Itself : Came config event up (request.Target asked) → AnswersAs config s event up asked
  Embedded : (u : Unconnected) → AsksSend config s event up u → u.route ≡ []
      → request_at u.request ≡ Ok asked → AnswersAs config s event up asked

-- an Unconnected_Send goes on
pub record SendsOn (config : ModuleSettings) (s : State) (event : Event) (sending : Sending) : Type
    0 where
  pub u : Unconnected
  pub rest : Octets
  pub embedded : Request
  pub asks : AsksSend config s event sending.up u
  pub meets : unconnected_row config s.pendings u
      ≡ unconnected.Forwarded sending.port sending.address rest
  pub read : request_at u.request ≡ Ok embedded
  pub leads : LeadsOn config s u.timing u.route sending.port sending.address rest
  pub bytes_are : sending.bytes ≡ message_on u rest
  pub wait_is : sending.wait ≡ wait_of u.timing
  pub words_are : sending.words ≡ words_of u.route

-- an open connection is asked to close, by its up side
pub record Closes (config : ModuleSettings) (s : State) (event : Event) (up : UpSide) (c : Close)
    (hop : Hop) : Type 0 where
  pub sender : UpSide
  pub asks : AsksClose config s event up sender c
  pub stands : hop_at s.hops c.fields.triad ≡ Some hop
  pub own : is_sender sender hop.opening.up ≡ true

-- a Forward_Close goes on by the link below, to which its path leads
pub record ClosesOn (config : ModuleSettings) (s : State) (event : Event) (sending : Sending)
    (triad : Triad) : Type 0 where
  pub c : Close
  pub hop : Hop
  pub next : HopAt
  pub closes : Closes config s event sending.up c hop
  pub triad_is : triad ≡ c.fields.triad
  pub below : hop.opening.down ≡ DownLink sending.port sending.address
  pub first : hop_of c.path ≡ Some next
  pub port_is : sending.port ≡ next.port
  pub address_is : sending.address ≡ next.address
  pub bytes_are : sending.bytes ≡ close_on c next.rest
  pub wait_is : sending.wait ≡ wait_of c.fields.timing
  pub words_are : sending.words ≡ words_of c.path
  pub ticks : 2 ≤ c.fields.timing.ticks

-- an Unconnected_Send goes on, or a Forward_Close
pub data ForwardsAs (config : ModuleSettings) (s : State) (event : Event) (sending : Sending)
    (kind : Kind) : Type 0 where
  SentOn : kind ≡ UnconnectedKind → SendsOn config s event sending
      → ForwardsAs config s event sending kind
  ClosedOn : (triad : Triad) → kind ≡ ClosingKind triad → ClosesOn config s event sending triad
      → ForwardsAs config s event sending kind

-- a Forward_Open goes on: its triad is free, and there is room and an id for it
pub record BeginsAs (config : ModuleSettings) (s : State) (event : Event) (sending : Sending)
    (opening : Opening) : Type 0 where
  pub o : Open
  pub rest : Octets
  pub asks : AsksOpen config s event sending.up o
  pub meets : open_row config s (up_side_of sending.up o.fields.to_id) o
      ≡ opens.Forwarded sending.port sending.address rest
  pub leads : LeadsOn config s o.fields.timing o.path sending.port sending.address rest
  pub free : map.get s.hops.held o.fields.triad ≡ None
  pub room : refusal s.hops o.fields.triad
      (ids_if_forwarded (up_side_of sending.up o.fields.to_id)) ≡ None
  pub bytes_are : sending.bytes ≡ open_on o s.hops.next rest
  pub wait_is : sending.wait ≡ wait_of o.fields.timing
  pub words_are : sending.words ≡ words_of o.path
  pub opening_is : opening ≡ opening_with (up_side_of sending.up o.fields.to_id)
      (DownLink sending.port sending.address) o

-- a Forward_Open ends here: it came in a frame, its path names no hop, and it fits the target
pub record AcceptsAs (config : ModuleSettings) (s : State) (event : Event) (opening : Opening)
    (o : Open) (link : EndLink) : Type 0 where
  pub up : UpSide
  pub asks : AsksOpen config s event up o
  pub meets : open_row config s (up_side_of up o.fields.to_id) o ≡ opens.Accepted link
  pub came : up_is_link (up_side_of up o.fields.to_id) ≡ true
  pub ends : hop_of o.path ≡ None
  pub fits : end_row s.assemblies (is_consumed s.hops) o ≡ Ok link
  pub free : map.get s.hops.held o.fields.triad ≡ None
  pub room : refusal s.hops o.fields.triad 1 ≡ None
  pub opening_is : opening ≡ opening_with (up_side_of up o.fields.to_id) (end_down link) o

pub record RemovesAs (config : ModuleSettings) (s : State) (event : Event) (triad : Triad) : Type 0
  where
    pub up : UpSide
    pub c : Close
    pub hop : Hop
    pub closes : Closes config s event up c hop
    pub triad_is : triad ≡ c.fields.triad

-- ---- replies

-- the reply to a request that waits under this number for one from there
pub record ReplyCame (s : State) (event : Event) (number : RequestNumber) (bytes : Octets)
    (entry : Entry)
    (reply : Reply) : Type 0 where
  pub port : PortIdentifier
  pub from : LinkAddress
  pub event_is : event ≡ events.Frame port from (bodies.Reply number bytes)
  pub waits : waiting_at s.pendings number port from ≡ Some entry
  pub read : reply_at bytes ≡ Ok reply

pub record FinishesAs (s : State) (event : Event) (number : RequestNumber) (triad : Triad)
    (bytes : Octets)
    (success : OpenSuccess) : Type 0 where
  pub entry : Entry
  pub reply : Reply
  pub came : ReplyCame s event number bytes entry reply
  pub kind : opened_triad entry.kind ≡ Some triad
  pub service : reply.service ≡ open_reply_service (is_large_kind entry.kind)
  pub general : reply.general ≡ 0
  pub read : open_reply_at reply.data_ ≡ Ok success
  pub triad_is : success.triad ≡ triad

pub record TakesAs (s : State) (event : Event) (number : RequestNumber) (bytes : Octets) : Type 0
  where
    pub entry : Entry
    pub reply : Reply
    pub came : ReplyCame s event number bytes entry reply
    pub meets : kind_row entry.kind reply ≡ PassedUp

-- ---- ticks

pub record PendingTimesOutAs (s : State) (event : Event) (number : RequestNumber) : Type 0 where
  pub ms : Milliseconds
  pub entry : Entry
  pub event_is : event ≡ events.Tick ms
  pub waits : map.get s.pendings.entries number ≡ Some entry
  pub due : entry.deadline ≤ s.now + 1000 * ms

-- the connection stands under its triad in every table, which `key` leaves open
pub record HopTimesOutAs (s : State) (event : Event) (triad : Triad) : Type 0 where
  pub ms : Milliseconds
  pub key : Triad
  pub hop : Hop
  pub event_is : event ≡ events.Tick ms
  pub stands : hop_at s.hops key ≡ Some hop
  pub triad_is : triad ≡ hop.opening.triad
  pub late : is_timed_out (s.now + 1000 * ms) hop ≡ true

pub record AdvancesAs (s : State) (event : Event) (by : Microseconds) : Type 0 where
  pub ms : Milliseconds
  pub event_is : event ≡ events.Tick ms
  pub by_is : by ≡ 1000 * ms
  pub time : s.now + by < 2 ^ 63

-- ---- data

-- by its own id on that side, and by the link there
abbrev pub hop_by : Side → Hops → ℕ → ℕ → List ℕ → Option Hop
hop_by Up = hop_by_up
hop_by Down = hop_by_down

-- the size of what comes by that side
abbrev pub size_by : Side → Hop → ℕ
size_by Up hop = hop.opening.ot_size
size_by Down hop = hop.opening.to_size

-- a datum of the connection came by that side, with the size of its direction
pub record DatumCame (s : State) (event : Event) (side : Side) (hop : Hop) (bytes : Octets) : Type 0
  where
    pub port : PortIdentifier
    pub from : LinkAddress
    pub id : ConnectionId
    pub event_is : event ≡ events.Frame port from (bodies.Data id bytes)
    pub found : hop_by side s.hops id port from ≡ Some hop
    pub sized : length bytes ≡ size_by side hop

-- a datum came to the end of the connection, and is written; in class 1 it is not the last one
-- again
pub record DatumWritten (s : State) (event : Event) (hop : Hop) (instance : InstanceNumber)
    (datum : Octets) :
    Type 0 where
  pub config : ℕ
  pub produce : ℕ
  pub came : DatumCame s event Up hop datum
  pub ends : hop.opening.down ≡ End config instance produce
  pub unlike : hop.opening.class ≡ 1 → is_last (word_in datum 0) hop.consumed ≡ false

-- an assembly is sent, from which the connection takes its data
pub record Produced (s : State) (event : Event) (hop : Hop) (held : Octets) : Type 0 where
  pub instance : InstanceNumber
  pub key : Triad
  pub event_is : event ≡ events.Command (commands.Produce instance)
  pub holds : map.get s.assemblies instance ≡ Some held
  pub stands : hop_at s.hops key ≡ Some hop
  pub reads : reads_from instance hop.opening.down ≡ true

pub record RenewsAs (s : State) (event : Event) (triad : Triad) (side : Side) : Type 0 where
  pub hop : Hop
  pub bytes : Octets
  pub came : DatumCame s event side hop bytes
  pub triad_is : triad ≡ hop.opening.triad

-- a datum that came by the other side, that the op that opened enters, or that is made of an
-- assembly
pub data PassesAs (s : State) (event : Event) (triad : Triad) (side : Side) (bytes : Octets) : Type
    0 where
  PassedOn : (hop : Hop) → triad ≡ hop.opening.triad → DatumCame s event (other side) hop bytes
      → PassesAs s event triad side bytes
  Entered : (of : OpNumber) (hop : Hop) → triad ≡ hop.opening.triad → side ≡ Down
      → event ≡ events.Command (commands.Enter of bytes)
      → hop_by_op s.hops of ≡ Some hop → length bytes ≡ hop.opening.ot_size
      → PassesAs s event triad side bytes
  Made : (held : Octets) (hop : Hop) → triad ≡ hop.opening.triad → side ≡ Up
      → bytes ≡ datum_bytes held hop → Produced s event hop held → PassesAs s event triad side bytes

-- in class 1: the count of a datum that is written, or of one that is made
pub data CountsAs (s : State) (event : Event) (triad : Triad) (side : Side) (count : ℕ) : Type 0
  where
    CountedUp : (hop : Hop) (instance : InstanceNumber) (datum : Octets) → triad ≡ hop.opening.triad
        → side ≡ Up
        → hop.opening.class ≡ 1 → count ≡ word_in datum 0
        → DatumWritten s event hop instance datum → CountsAs s event triad side count
    CountedDown : (hop : Hop) (held : Octets) → triad ≡ hop.opening.triad → side ≡ Down
        → hop.opening.class ≡ 1 → count ≡ next_count hop.produced
        → Produced s event hop held → CountsAs s event triad side count

-- what stands behind the sequence count, if there is one
abbrev pub behind_count : Hop → Octets → List ℕ
behind_count hop datum = if hop.opening.class == 1 then drop 2 datum else datum

pub data WritesAs (s : State) (event : Event) (instance : InstanceNumber) (bytes : Octets) : Type 0
  where
    Taken : (hop : Hop) (datum : Octets) → bytes ≡ behind_count hop datum
        → DatumWritten s event hop instance datum → WritesAs s event instance bytes
    Set : event ≡ events.Command (commands.Set instance bytes)
        → size_in s.assemblies instance ≡ Some (length bytes) → WritesAs s event instance bytes

-- ---- what is refused, and what is dropped

-- the row that a command meets
abbrev pub command_row : State → Command → CommandRow
command_row s (commands.Open op timing path params) = op_row s op
command_row s (commands.LargeOpen op timing path params) = op_row s op
command_row s (commands.Close op of timing) = close_command_row s op of
command_row s (commands.Send op timing path asked) = send_row s op (sent timing path asked)
command_row s (commands.Enter of bytes) = enter_row bytes (hop_by_op s.hops of)
command_row s (commands.Set instance bytes) = set_row bytes (size_in s.assemblies instance)
command_row s (commands.Produce instance) = produce_row (map.get s.assemblies instance)

-- why a row refuses a command
abbrev pub refused_by : CommandRow → Option Refused
refused_by command_rows.OpUsed = Some refused.OpUsed
refused_by command_rows.NotOpen = Some refused.NotOpen
refused_by command_rows.ReservedService = Some refused.ReservedService
refused_by command_rows.WrongSize = Some refused.WrongSize
refused_by command_rows.NoInstance = Some refused.NoInstance
refused_by command_rows.Taken = None

pub record RefusesAs (s : State) (event : Event) (fault : Refused) : Type 0 where
  pub command : Command
  pub event_is : event ≡ events.Command command
  pub meets : refused_by (command_row s command) ≡ Some fault

-- why a row drops a request, a reply or a datum
abbrev pub request_dropped : RequestRow → Option Dropped
request_dropped request.UnknownPortOrTooLong = Some dropped.Malformed
request_dropped request.NotARequest = Some dropped.Malformed
request_dropped row = None

abbrev pub reply_dropped : ReplyRow → Option Dropped
reply_dropped reply.UnknownPortOrTooLong = Some dropped.Malformed
reply_dropped reply.Late = Some dropped.Late
reply_dropped reply.MalformedForItsKind = Some dropped.Malformed
reply_dropped row = None

abbrev pub datum_dropped : DataRow → Option Dropped
datum_dropped datum.UnknownId = Some dropped.UnknownId
datum_dropped datum.WrongSize = Some dropped.WrongSize
datum_dropped row = None

-- why the row that a frame meets drops it
abbrev pub dropped_by : ModuleSettings → State → PortIdentifier → LinkAddress → Body
    → Option Dropped
dropped_by config s port from (bodies.Request number bytes) =
    request_dropped (request_row config port bytes)
dropped_by config s port from (bodies.Reply number bytes) =
    reply_dropped (reply_row config s port from number bytes)
dropped_by config s port from (bodies.Data id bytes) =
    datum_dropped (data_row config s port from id bytes)

pub record DropsAs (config : ModuleSettings) (s : State) (event : Event) (reason : Dropped) : Type 0
  where
    pub port : PortIdentifier
    pub from : LinkAddress
    pub body : Body
    pub event_is : event ≡ events.Frame port from body
    pub meets : dropped_by config s port from body ≡ Some reason

-- ---- any effect

abbrev pub Tells : ModuleSettings → State → Event → Effect → Type 0
Tells config s event (Spends op) = SpendsAs s event op
Tells config s event (Replies up bytes) = RepliesAs config s event up bytes
Tells config s event (Answers up asked) = AnswersAs config s event up asked
Tells config s event (Forwards sending kind) = ForwardsAs config s event sending kind
Tells config s event (Begins sending opening) = BeginsAs config s event sending opening
Tells config s event (Accepts opening o link) = AcceptsAs config s event opening o link
Tells config s event (Finishes number triad bytes success) =
    FinishesAs s event number triad bytes success
Tells config s event (Takes number bytes) = TakesAs s event number bytes
Tells config s event (PendingTimesOut number) = PendingTimesOutAs s event number
Tells config s event (Removes triad) = RemovesAs config s event triad
Tells config s event (HopTimesOut triad) = HopTimesOutAs s event triad
Tells config s event (Renews triad side) = RenewsAs s event triad side
Tells config s event (Passes triad side bytes) = PassesAs s event triad side bytes
Tells config s event (Counts triad side count) = CountsAs s event triad side count
Tells config s event (Writes instance bytes) = WritesAs s event instance bytes
Tells config s event (RefusesCommand fault) = RefusesAs s event fault
Tells config s event (Drops reason) = DropsAs config s event reason
Tells config s event (Advances by) = AdvancesAs s event by

abbrev pub AllTell : ModuleSettings → State → Event → List Effect → Type 0
AllTell config s event [] = Unit {0}
AllTell config s event (e ∷ es) = Tells config s event e × AllTell config s event es
