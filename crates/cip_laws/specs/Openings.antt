-- A request and the connection that it opens: which turn sent it, where they wait, and which turn
-- brought its success.
use Rattle.std.specs.Prelude.{◌≡◌, ℕ, if◌then◌else◌, List, Option, Some, None, Ok}
use Rattle.std.specs.FinMap as map
use Rattle.cip_base.specs.Words.{Octets, RequestNumber}
use Rattle.cip_base.specs.declared.triad.Triad.{Triad}
use Rattle.cip_message.specs.Reply.{Reply}
use Rattle.cip_message.specs.ReplyAt.{reply_at}
use Rattle.cip_open.specs.Success.{OpenSuccess}
use Rattle.cip_open.specs.SuccessAt.{open_reply_at}
use Rattle.cip_pending.specs.declared.entry.Entry.{Entry}
use Rattle.cip_pending.specs.Kinds.{opened_triad}
use Rattle.cip_hops.specs.declared.opening.Opening.{Opening}
use Rattle.cip_hops.specs.declared.opening.OwnIds.{OwnIds}
use Rattle.cip_hops.specs.declared.hop.Held.TheVariants.{Opening as IsOpening}
use Rattle.cip_hops.specs.Sides.{own_ids, down_is_link}
use Rattle.cip_config.specs.declared.config.ModuleSettings.{ModuleSettings}
use Rattle.cip_event.specs.declared.event.Body.TheVariants as bodies
use Rattle.cip_event.specs.declared.event.Event.TheVariants as events
use Rattle.cip_event.specs.declared.event.Output.TheVariants as outputs
use Rattle.cip_laws.specs.Births.{Past}
use Rattle.cip_routing.specs.Effects.{Sending}
use Rattle.cip_laws.specs.Histories.{Turn, state_after}
use Rattle.cip_routing.specs.State.{State}
use Rattle.cip_laws.specs.Tells.{BeginsAs}
use Rattle.cip_laws.specs.Turns.{Has}

-- the turn sent the request n, which waits as p, for the connection that it began with these ids
pub record OpenSent (config : ModuleSettings) (n : RequestNumber) (p : Entry) (o : Opening)
    (ids : OwnIds) (before : List Turn) (turn : Turn) : Type 0 where
  pub sending : Sending
  pub tells : BeginsAs config (state_after config before) turn.event sending o
  pub number : n ≡ (state_after config before).pendings.next
  pub ids_are : ids ≡ own_ids (state_after config before).hops.next o
  pub sent : Has turn.outputs
      (outputs.Send sending.port sending.address (bodies.Request n sending.bytes))
  pub up_is : p.up ≡ sending.up
  pub port_is : p.port ≡ sending.port
  pub address_is : p.address ≡ sending.address
  pub words_is : p.words ≡ sending.words

-- in one of these turns
abbrev pub SentIn : ModuleSettings → List Turn → ℕ → Entry → Opening → OwnIds → Type 0
SentIn config turns n p o ids = Past (OpenSent config n p o ids) turns

-- what the request n, which waits as p, opens is opening under its triad, and P holds of the two
pub record Opens (P : ℕ → Entry → Opening → OwnIds → Type 0) (s : State) (n : RequestNumber)
    (p : Entry) (triad : Triad) : Type 0 where
  pub opening : Opening
  pub ids : OwnIds
  pub at : map.get s.hops.held triad ≡ Some (IsOpening opening ids)
  pub of : P n p opening ids

-- so does each request that opens, and no two open one triad
pub record Joined (P : ℕ → Entry → Opening → OwnIds → Type 0) (s : State) : Type 0 where
  pub each : (n : ℕ) (p : Entry) (triad : Triad) → map.get s.pendings.entries n ≡ Some p
      → opened_triad p.kind ≡ Some triad → Opens P s n p triad
  pub one : (m n : ℕ) (p q : Entry) (triad : Triad) → map.get s.pendings.entries m ≡ Some p
      → map.get s.pendings.entries n ≡ Some q
      → opened_triad p.kind ≡ Some triad → opened_triad q.kind ≡ Some triad → m ≡ n

-- the turn in which the success came to the request that was sent for a connection
pub record HopOpened (config : ModuleSettings) (o : Opening) (ids : OwnIds) (their_id : Option ℕ)
    (before : List Turn) (turn : Turn) : Type 0 where
  pub number : RequestNumber
  pub entry : Entry
  pub bytes : Octets
  pub reply : Reply
  pub success : OpenSuccess
  pub sent : SentIn config before number entry o ids
  pub event_is : turn.event
      ≡ events.Frame entry.port entry.address (bodies.Reply number bytes)
  pub read : reply_at bytes ≡ Ok reply
  pub general : reply.general ≡ 0
  pub success_is : open_reply_at reply.data_ ≡ Ok success
  pub their_is : their_id ≡ (if down_is_link o.down then Some success.ot_id else None)
