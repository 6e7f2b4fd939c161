-- Which effect an output comes from, and what that tells.
use Rattle.std.specs.Prelude.{◌≡◌, ℕ, List, ◌∷◌, ◌++◌, Bool, true, false, Some}
use Rattle.std.specs.FinMap as map
use Rattle.std.specs.Option.{option_map_or}
use Rattle.cip_base.specs.Words.{ConnectionId, InstanceNumber, LinkAddress, Octets, OpNumber, PortIdentifier, RequestNumber}
use Rattle.cip_base.specs.declared.triad.Triad.{Triad}
use Rattle.cip_message.specs.Request.{Request}
use Rattle.cip_message.specs.Reply.{reply_bytes}
use Rattle.cip_open.specs.Open.{Open as OpenRequest}
use Rattle.cip_open.specs.Success.{OpenSuccess}
use Rattle.cip_pending.specs.declared.entry.Entry.{Entry}
use Rattle.cip_pending.specs.declared.entry.Kind.{Kind}
use Rattle.cip_pending.specs.declared.entry.UpSide.{UpSide}
use Rattle.cip_hops.specs.declared.opening.HopDown.{HopDown}
use Rattle.cip_hops.specs.declared.opening.HopDown.TheVariants.{Link as DownLink, End}
use Rattle.cip_hops.specs.declared.opening.HopUp.TheVariants.{Link as UpLink, Local as UpLocal}
use Rattle.cip_hops.specs.declared.opening.Opening.{Opening}
use Rattle.cip_hops.specs.declared.hop.Hop.{Hop}
use Rattle.cip_hops.specs.declared.hop.Side.{Side}
use Rattle.cip_hops.specs.declared.hop.Side.TheVariants.{Up, Down}
use Rattle.cip_hops.specs.Hops.{hop_at}
use Rattle.cip_config.specs.declared.config.ModuleSettings.{ModuleSettings}
use Rattle.cip_event.specs.declared.event.Body.{Body}
use Rattle.cip_event.specs.declared.event.Body.TheVariants as bodies
use Rattle.cip_event.specs.declared.event.Dropped.{Dropped}
use Rattle.cip_event.specs.declared.event.Event.{Event}
use Rattle.cip_event.specs.declared.event.Output.{Output}
use Rattle.cip_event.specs.declared.event.Output.TheVariants as outputs
use Rattle.cip_event.specs.declared.event.Refused.{Refused}
use Rattle.cip_routing.specs.Effects.{Sending, Effect, Answers, Forwards, Begins, Finishes, Takes, PendingTimesOut, HopTimesOut, Passes, RefusesCommand, Drops}
use Rattle.cip_routing.specs.Effects.{resets, here_answer, timed_out_bytes, datum_by, succeeded, output_of, applied}
use Rattle.cip_routing.specs.OpenRows.{opening_with}
use Rattle.cip_routing.specs.State.{State}
use Rattle.cip_routing.specs.Table.{up_side_of}
use Rattle.cip_laws.specs.Tells.{Tells, AsksOpen, RepliesAs, AnswersAs, ForwardsAs, BeginsAs, HopTimesOutAs, RefusesAs, DropsAs}
use Rattle.cip_laws.specs.Weights.{mark}
use Rattle.cip_laws.specs.Turns.{Has}
use Rattle.cip_pending.specs.Kinds.{is_large_kind}
use Rattle.cip_routing.specs.Resets.{held_ops, all_ended}

-- the effect that gave an output, and those before it and after it
pub record GaveBy (config : ModuleSettings) (s : State) (event : Event) (all : List Effect)
    (x : Output) : Type 0 where
  pub before : List Effect
  pub after : List Effect
  pub effect : Effect
  pub is : before ++ (effect ∷ after) ≡ all
  pub tells : Tells config s event effect
  pub gives : Has (output_of config (applied config s before) effect) x

-- ---- requests

-- what sent a request
pub data RequestBy (config : ModuleSettings) (s : State) (event : Event) (e : Effect)
    (port : PortIdentifier) (to bytes : List ℕ) : Type 0 where
  ByForward : (sending : Sending) (kind : Kind) → e ≡ Forwards sending kind
      → ForwardsAs config s event sending kind → sending.port ≡ port → sending.address ≡ to
      → sending.bytes ≡ bytes → RequestBy config s event e port to bytes
  ByBegin : (sending : Sending) (o : Opening) → e ≡ Begins sending o
      → BeginsAs config s event sending o → sending.port ≡ port → sending.address ≡ to
      → sending.bytes ≡ bytes → RequestBy config s event e port to bytes

-- the open that a connection was born for
pub record BornBy (config : ModuleSettings) (s : State) (event : Event) (o : Opening) : Type 0
  where
    pub up : UpSide
    pub request : OpenRequest
    pub down : HopDown
    pub asks : AsksOpen config s event up request
    pub opening_is : o ≡ opening_with (up_side_of up request.fields.to_id) down request

-- ---- replies and Dones

-- the ways to a reply, by a link or to a command, where the effect is applied to the state `mid`
pub data RepliesBy (config : ModuleSettings) (s : State) (event : Event) (mid : State) (e : Effect)
    (up : UpSide) (bytes : Octets) : Type 0 where
  AtOnce : RepliesAs config s event up bytes → RepliesBy config s event mid e up bytes
  Here : (asked : Request) → e ≡ Answers up asked → AnswersAs config s event up asked
      → bytes ≡ reply_bytes (here_answer config mid asked)
      → RepliesBy config s event mid e up bytes
  Opened : (number : RequestNumber) (triad : Triad) (came : Octets) (success : OpenSuccess)
      (p : Entry) → e ≡ Finishes number triad came success
      → map.get mid.pendings.entries number ≡ Some p → p.up ≡ up
      → bytes ≡ succeeded (is_large_kind p.kind) (map.get mid.hops.held triad) came success
      → RepliesBy config s event mid e up bytes
  Taken : (number : RequestNumber) (p : Entry) → e ≡ Takes number bytes
      → map.get mid.pendings.entries number ≡ Some p → p.up ≡ up
      → RepliesBy config s event mid e up bytes
  Late : (number : RequestNumber) (p : Entry) → e ≡ PendingTimesOut number
      → map.get mid.pendings.entries number ≡ Some p → p.up ≡ up
      → bytes ≡ timed_out_bytes p.kind p.words → RepliesBy config s event mid e up bytes

-- ---- data

abbrev pub is_data : Body → Bool
is_data (bodies.Request number bytes) = false
is_data (bodies.Reply number bytes) = false
is_data (bodies.Data id bytes) = true

-- a datum by a link, to an assembly or to the command that opened
abbrev pub is_datum : Output → Bool
is_datum (outputs.Send port to body) = is_data body
is_datum (outputs.Done op reply) = false
is_datum (outputs.Refused fault) = false
is_datum (outputs.Consumed triad instance bytes) = true
is_datum (outputs.Arrived op bytes) = true
is_datum (outputs.Expired triad) = false
is_datum (outputs.Ended op) = false
is_datum (outputs.Dropped reason) = false

-- the connection and the side by which an effect passed a datum
pub record PassedBy (mid : State) (e : Effect) (x : Output) : Type 0 where
  pub triad : Triad
  pub side : Side
  pub bytes : Octets
  pub hop : Hop
  pub effect_is : e ≡ Passes triad side bytes
  pub stands : hop_at mid.hops triad ≡ Some hop
  pub is : datum_by side hop bytes ≡ x

-- where a datum goes: to the device above or to the command that opened, to the device below or to
-- an assembly here
pub data DatumOf (hop : Hop) (side : Side) (bytes : Octets) (x : Output) : Type 0 where
  GoesUp : (port : PortIdentifier) (to : LinkAddress) (their_id : ConnectionId) → side ≡ Up
      → hop.opening.up ≡ UpLink port to their_id
      → x ≡ outputs.Send port to (bodies.Data their_id bytes) → DatumOf hop side bytes x
  Arrives : (op : OpNumber) → side ≡ Up → hop.opening.up ≡ UpLocal op
      → x ≡ outputs.Arrived op bytes → DatumOf hop side bytes x
  GoesDown : (port : PortIdentifier) (to : LinkAddress) → side ≡ Down
      → hop.opening.down ≡ DownLink port to
      → x ≡ outputs.Send port to (bodies.Data (option_map_or (λ id. id) hop.their_id 0) bytes)
      → DatumOf hop side bytes x
  IsConsumed : (config consume produce : InstanceNumber) → side ≡ Down
      → hop.opening.down ≡ End config consume produce
      → x ≡ outputs.Consumed hop.opening.triad consume bytes → DatumOf hop side bytes x

-- 1 of a datum
abbrev pub one_datum : Output → ℕ
one_datum x = mark (is_datum x)

-- ---- the end of a connection or an op, a refusal, a drop

-- 1 of an output that tells of one of these
abbrev pub tells_end : Output → ℕ
tells_end (outputs.Send port to body) = 0
tells_end (outputs.Done op reply) = 0
tells_end (outputs.Refused fault) = 1
tells_end (outputs.Consumed triad instance bytes) = 0
tells_end (outputs.Arrived op bytes) = 0
tells_end (outputs.Expired triad) = 1
tells_end (outputs.Ended op) = 1
tells_end (outputs.Dropped reason) = 1

-- a connection that was silent for too long; an op that waited or was open where a request resets
-- the module; a command or a frame, with the row that it meets
pub data EndedBy (config : ModuleSettings) (s : State) (event : Event) (mid : State) (e : Effect)
    (x : Output) : Type 0 where
  ByTimeOut : (triad : Triad) → e ≡ HopTimesOut triad → x ≡ outputs.Expired triad
      → HopTimesOutAs s event triad → EndedBy config s event mid e x
  ByReset : (up : UpSide) (asked : Request) (op : OpNumber) → e ≡ Answers up asked
      → x ≡ outputs.Ended op → resets config mid asked ≡ true → Has (all_ended (held_ops mid)) x
      → AnswersAs config s event up asked → EndedBy config s event mid e x
  ByRefusal : (fault : Refused) → e ≡ RefusesCommand fault → x ≡ outputs.Refused fault
      → RefusesAs s event fault → EndedBy config s event mid e x
  ByDrop : (reason : Dropped) → e ≡ Drops reason → x ≡ outputs.Dropped reason
      → DropsAs config s event reason → EndedBy config s event mid e x
