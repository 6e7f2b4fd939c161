-- What an answer tells of the trail of its command.
use Rattle.std.specs.Prelude.{◌≡◌, ◌≢◌, ℕ, ◌<◌, ◌==◌, if◌then◌else◌, List, [], ◌∷◌, ◌++◌, Option, Some, None, Result, Ok, Err, false, option_and_then}
use Rattle.std.specs.Prelude.{slice_index, Bool, true}
use Rattle.std.specs.FinMap as map
use Rattle.std.specs.List.{list_any}
use Rattle.cip_base.specs.Words.{Octets, OpNumber}
use Rattle.cip_base.specs.declared.timing.Status.{Status}
use Rattle.cip_base.specs.declared.timing.Timing.{Timing}
use Rattle.cip_message.specs.Failure.{failure_at}
use Rattle.cip_message.specs.Reply.{Reply, extra_words}
use Rattle.cip_message.specs.ReplyAt.{reply_at}
use Rattle.cip_message.specs.Request.{Request}
use Rattle.cip_message.specs.RequestAt.{request_at}
use Rattle.cip_message.specs.declared.failure.ConnectionFailure.{ConnectionFailure}
use Rattle.cip_message.specs.declared.fault.DataFault.{DataFault}
use Rattle.cip_message.specs.declared.fault.RequestFault.{RequestFault}
use Rattle.cip_open.specs.declared.kinds.TheConstants.{FORWARD_OPEN, LARGE_FORWARD_OPEN}
use Rattle.cip_open.specs.Kinds.{open_reply_service}
use Rattle.cip_open.specs.Open.{Open}
use Rattle.cip_open.specs.OpenAt.{open_at, open_words_of}
use Rattle.cip_pending.specs.declared.entry.Entry.{Entry as Pending}
use Rattle.cip_pending.specs.declared.entry.UpSide.{UpSide}
use Rattle.cip_target.specs.declared.link.EndLink.{EndLink}
use Rattle.cip_message.specs.Reply.{reply_bytes}
use Rattle.cip_config.specs.declared.config.ModuleSettings.{ModuleSettings}
use Rattle.cip_event.specs.declared.event.Body.{Body}
use Rattle.cip_event.specs.declared.event.Body.TheVariants as bodies
use Rattle.cip_event.specs.declared.event.Command.{Command}
use Rattle.cip_event.specs.declared.event.Command.TheVariants as commands
use Rattle.cip_event.specs.declared.event.Event.{Event}
use Rattle.cip_event.specs.declared.event.Event.TheVariants as events
use Rattle.cip_event.specs.declared.event.Output.TheVariants as outputs
use Rattle.cip_routing.specs.declared.refusals.LinkRefusal.TheVariants.{TicksSpent}
use Rattle.cip_routing.specs.declared.refusals.OpenRefusal.{OpenRefusal}
use Rattle.cip_routing.specs.Effects.{here_answer}
use Rattle.cip_routing.specs.OpenRows.{Refuses, Accepted, open_row, unread_row}
use Rattle.cip_routing.specs.RequestRows.{ForwardOpen}
use Rattle.cip_routing.specs.State.{State}
use Rattle.cip_routing.specs.Statuses.{link_status, open_status}
use Rattle.cip_routing.specs.Table.{up_side_of, words_of, asked_open}
use Rattle.cip_laws.specs.Tells.{Came, AsksOpen, PendingTimesOutAs}
use Rattle.cip_laws.specs.Turns.{Has, Gave}
use Rattle.cip_chassis.specs.Plan.{Plan}
use Rattle.cip_chassis.specs.Walk.{walk}
use Rattle.cip_world.specs.declared.journal.Entry.{Entry}
use Rattle.cip_world.specs.declared.journal.Entry.TheVariants.{Step, Lost}
use Rattle.cip_world.specs.Journals.{Journal, entry_at, event_of, part}
use Rattle.cip_world.specs.StepsIn.{StepIn, state_before}
use Rattle.cip_world.specs.Trails.{is_refusal}

-- ---- words of a path as received

abbrev pub request_words : Result Request RequestFault → Option ℕ
request_words (Ok r) =
    if r.service == FORWARD_OPEN then open_words_of false r.data_
    else if r.service == LARGE_FORWARD_OPEN then open_words_of true r.data_ else None
request_words (Err fault) = None

abbrev pub body_words : Body → Option ℕ
body_words (bodies.Request number bytes) = request_words (request_at bytes)
body_words (bodies.Reply number bytes) = None
body_words (bodies.Data id bytes) = None

abbrev pub command_words : Command → Option ℕ
command_words (commands.Open op timing path params) = Some (words_of path)
command_words (commands.LargeOpen op timing path params) = Some (words_of path)
command_words (commands.Close op of timing) = None
command_words (commands.Send op timing path request) = None
command_words (commands.Enter of bytes) = None
command_words (commands.Set instance bytes) = None
command_words (commands.Produce instance) = None

-- of an Open or LargeOpen those of its path, of an open that came its path size
abbrev pub open_words : Event → Option ℕ
open_words (events.Command command) = command_words command
open_words (events.Frame port from body) = body_words body
open_words (events.Tick ms) = None

abbrev pub event_in : Journal → Entry → Option Event
event_in j (Step m input outs) = event_of j input
event_in j (Lost frame) = None

-- the words of the path that the open in entry k has, as received there
abbrev pub words_at : Journal → ℕ → Option ℕ
words_at j k = option_and_then open_words (option_and_then (event_in j) (entry_at j k))

-- each of these entries has an open, with fewer words than the one before it, the first with fewer
-- than this
abbrev pub FallBelow : Journal → ℕ → List ℕ → Type 0
FallBelow j most [] = Unit {0}
FallBelow j most (k ∷ ks) =
    (w : ℕ) × (words_at j k ≡ Some w) × (w < most) × FallBelow j w ks

-- words fall strictly along the entries
abbrev pub WordsFall : Journal → List ℕ → Type 0
WordsFall j [] = Unit {0}
WordsFall j (k ∷ ks) = (w : ℕ) × (words_at j k ≡ Some w) × FallBelow j w ks

-- ---- entries of a trail

-- the entry is one of these
pub record IsOn (k : ℕ) (ks : List ℕ) : Type 0 where
  pub front : List ℕ
  pub behind : List ℕ
  pub is : ks ≡ front ++ (k ∷ behind)

-- the entry is the last of these
pub record IsLast (k : ℕ) (ks : List ℕ) : Type 0 where
  pub front : List ℕ
  pub is : ks ≡ front ++ (k ∷ [])

-- ---- an open

-- a row of the open group refuses what the event asks
pub data RefusedBy (config : ModuleSettings) (s : State) (event : Event) (refusal : OpenRefusal) :
    Type 0 where
  Unread : (up : UpSide) (large : Bool) (asked : Octets) (fault : DataFault)
      → Came config event up (ForwardOpen large asked) → open_at large asked ≡ Err fault
      → refusal ≡ unread_row large asked fault → RefusedBy config s event refusal
  Read : (up : UpSide) (o : Open) → AsksOpen config s event up o
      → open_row config s (up_side_of up o.fields.to_id) o ≡ Refuses refusal
      → RefusedBy config s event refusal

-- a later tick of the module ended the wait for the reply to the request that entry k sent
pub record TimedOut (t : Plan) (j : Journal) (k : ℕ) (s : StepIn t j k) : Type 0 where
  pub number : ℕ
  pub waiting : Pending
  pub bytes : Octets
  pub sent : Has s.outputs
      (outputs.Send waiting.port waiting.address (bodies.Request number bytes))
  pub place : ℕ
  pub tick : StepIn t j place
  pub here : tick.at.0 ≡ s.at.0
  pub later : k < place
  pub waits : map.get (state_before tick).pendings.entries number ≡ Some waiting
  pub ends : PendingTimesOutAs (state_before tick) tick.taken.event number

-- why an open failed at entry k with this status
pub data FailedAt (t : Plan) (j : Journal) (k : ℕ) (s : StepIn t j k) (status : Status) : Type 0
  where
    ByRow : (refusal : OpenRefusal)
        → RefusedBy s.taken.config (state_before s) s.taken.event refusal
        → status ≡ open_status refusal → FailedAt t j k s status
    ByTick : TimedOut t j k s → status ≡ link_status TicksSpent → FailedAt t j k s status

-- The reply tells the words of the path as received at just one entry of the trail, and there the
-- open failed with this status.
pub record TellsWhere (t : Plan) (j : Journal) (ks : List ℕ) (reply : Reply) : Type 0 where
  pub status : Status
  pub general_is : reply.general ≡ status.general
  pub extra_is : reply.extra ≡ extra_words status.extra
  pub failure : ConnectionFailure
  pub read : failure_at reply.data_ ≡ Ok failure
  pub words : ℕ
  pub words_is : failure.words ≡ Some words
  pub place : ℕ
  pub on : IsOn place ks
  pub received : words_at j place ≡ Some words
  pub only : (k : ℕ) → IsOn k ks → words_at j k ≡ Some words → k ≡ place
  pub step : StepIn t j place
  pub why : FailedAt t j place step status

-- The open was accepted at the last entry of the trail, at the module to which the walk of the path
-- leads.
pub record EndsThere (t : Plan) (j : Journal) (ks : List ℕ) (m : ℕ) (path : Octets) : Type 0 where
  pub place : ℕ
  pub last : IsLast place ks
  pub step : StepIn t j place
  pub up : UpSide
  pub o : Open
  pub link : EndLink
  pub asks : AsksOpen step.taken.config (state_before step) step.taken.event up o
  pub meets : open_row step.taken.config (state_before step) (up_side_of up o.fields.to_id) o
      ≡ Accepted link
  pub walks : walk t m path ≡ Some (record { at = step.at.0; path = o.path })

-- What the Done of an open, large or not, tells: it can be read as a reply of that service, which
-- is a failure that tells where, or a success at the end of the path.
pub record OpenDone (t : Plan) (j : Journal) (ks : List ℕ) (m : ℕ) (path : Octets)
    (large : Bool) (bytes : Octets) : Type 0
  where
    pub reply : Reply
    pub read : reply_at bytes ≡ Ok reply
    pub service_is : reply.service ≡ open_reply_service large
    pub fails : reply.general ≢ 0 → TellsWhere t j ks reply
    pub succeeds : reply.general ≡ 0 → EndsThere t j ks m path

-- module m has the command of this op in entry k, which asks for an open along the path, and is not
-- refused
pub record OpenedIn (t : Plan) (j : Journal) (m : ℕ) (op : OpNumber) (k : ℕ) (path : Octets) :
    Type 0 where
  pub step : StepIn t j k
  pub here : step.at.0 ≡ m
  pub command : Command
  pub request : Open
  pub event_is : step.taken.event ≡ events.Command command
  pub asks : asked_open step.taken.config.identity command ≡ Some (op, request)
  pub path_is : request.path ≡ path
  pub unrefused : list_any is_refusal step.outputs ≡ false

-- ---- a Send

-- module m has the Send of this op in entry k, which is not refused
pub record SentIn (t : Plan) (j : Journal) (m : ℕ) (op : OpNumber) (k : ℕ) (path request : Octets)
    : Type 0 where
  pub step : StepIn t j k
  pub here : step.at.0 ≡ m
  pub timing : Timing
  pub event_is : step.taken.event ≡ events.Command (commands.Send op timing path request)
  pub unrefused : list_any is_refusal step.outputs ≡ false

-- The bytes are the answer of the module's own objects to the request, at the module to which the
-- walk of the path leads, in its state before the last entry of the trail.
pub record AnsweredThere (t : Plan) (j : Journal) (ks : List ℕ) (m : ℕ)
    (path request bytes : Octets) : Type 0 where
  pub place : ℕ
  pub last : IsLast place ks
  pub step : StepIn t j place
  pub asked : Request
  pub read : request_at request ≡ Ok asked
  pub walks : walk t m path ≡ Some (record { at = step.at.0; path = [] })
  pub answer : bytes ≡ reply_bytes (here_answer step.taken.config (state_before step) asked)

-- ---- the trail of a command

-- what the Dones of an op tell of its trail
pub record TrailTells (t : Plan) (j : Journal) (m : ℕ) (op : OpNumber) (ks : List ℕ) : Type 0 where
  pub falls : (k : ℕ) (path : Octets) → OpenedIn t j m op k path → WordsFall j ks
  pub opens : (k : ℕ) (path : Octets) → (opened : OpenedIn t j m op k path)
      → (bytes : Octets) → Gave (part m j) (outputs.Done op bytes)
      → OpenDone t j ks m path opened.request.fields.large bytes
  pub answers : (k : ℕ) (path request : Octets) → SentIn t j m op k path request
      → (bytes : Octets) → Gave (part m j) (outputs.Done op bytes)
      → slice_index bytes 0 ≢ 0xD2 → AnsweredThere t j ks m path request bytes
