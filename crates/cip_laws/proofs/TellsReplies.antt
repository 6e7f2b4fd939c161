-- What a reply tells, read backwards.
use Rattle.std.proofs.Common.{◌≡◌, ℕ, Bool, true, false, cond, eqb, ◌&&◌, is_some, List, refl, sym, ap, subst, ◌∙◌, Option, Some, None, Result, Ok, Err}
use Rattle.std.specs.Prelude.{slice_get}
use Rattle.std.proofs.lemmas.Bool.{eqb-true}
use Rattle.cip_base.specs.declared.triad.Triad.{Triad}
use Rattle.cip_message.specs.Reply.{Reply}
use Rattle.cip_message.specs.ReplyAt.{reply_at}
use Rattle.cip_message.specs.Failure.{failure_at}
use Rattle.cip_message.specs.declared.failure.ConnectionFailure.{ConnectionFailure}
use Rattle.cip_message.specs.declared.fault.ReplyFault.{ReplyFault}
use Rattle.cip_message.specs.declared.fault.DataFault.{DataFault}
use Rattle.cip_open.specs.Success.{OpenSuccess}
use Rattle.cip_open.specs.SuccessAt.{open_reply_at}
use Rattle.cip_open.specs.Kinds.{open_reply_service}
use Rattle.cip_pending.specs.declared.entry.Kind.{Kind}
use Rattle.cip_pending.specs.declared.entry.Kind.TheVariants.{Unconnected, Opening, OpeningLarge, Closing}
use Rattle.cip_pending.specs.Kinds.{opened_triad, is_large_kind}
use Rattle.cip_pending.specs.declared.entry.Entry.{Entry}
use Rattle.cip_pending.specs.Pendings.{waiting_at}
use Rattle.cip_config.specs.declared.config.ModuleSettings.{ModuleSettings}
use Rattle.cip_event.specs.declared.event.Event.TheVariants.{Frame}
use Rattle.cip_event.specs.declared.event.Body.TheVariants as bodies
use Rattle.cip_event.specs.declared.event.Dropped.{Dropped}
use Rattle.cip_event.specs.declared.event.Dropped.TheVariants as dropped
use Rattle.cip_routing.specs.RequestRows.{is_malformed}
use Rattle.cip_routing.specs.ReplyRows.{ReplyRow, UnknownPortOrTooLong, Late, MalformedForItsKind, OpenSucceeded, PassedUp, triad_eq, is_own, opened_row}
use Rattle.cip_routing.specs.ReplyRows.{opening_row, open_kind_row, failure_row, kind_row, read_row, waiting_row, reply_row}
use Rattle.cip_routing.specs.State.{State}
use Rattle.cip_routing.specs.Table.{reply_effects}
use Rattle.cip_laws.specs.Tells.{DropsAs, reply_dropped, AllTell}
use Rattle.cip_routing.proofs.Conditions.{past, first_of}
use Rattle.cip_routing.proofs.Receiving.{opens_only}

-- ---- a success

triad_parts : (a b : Triad) → triad_eq a b ≡ true → a ≡ b
triad_parts a b e =
    let serial = first_two (eqb a.serial b.serial) (eqb a.vendor b.vendor && eqb a.originator b.originator) e in
    let vendor = first_two (eqb a.vendor b.vendor) (eqb a.originator b.originator) serial.1 in
    λ i. record {
      serial = eqb-true a.serial b.serial serial.0 i;
      vendor = eqb-true a.vendor b.vendor vendor.0 i;
      originator =
          eqb-true a.originator b.originator vendor.1 i;
    }
  where
    first_two : (a b : Bool) → (a && b) ≡ true → (a ≡ true) × (b ≡ true)
    first_two true b e = (refl, e)
    first_two false b e = absurd (cc)

abbrev Succeeds : Bool → Reply → Triad → OpenSuccess → Type 0
Succeeds large reply triad success =
    (reply.service ≡ open_reply_service large) × (reply.general ≡ 0) × (open_reply_at reply.data_ ≡ Ok success) × (success.triad ≡ triad)

no_failure : (triad asked : Triad) (success : OpenSuccess) (r : Result ConnectionFailure DataFault) → failure_row asked r ≡ OpenSucceeded triad success → ⊥
no_failure triad asked success (Err fault) e = cc
no_failure triad asked success (Ok failure) e =
    let tested = past (is_own asked failure.triad) PassedUp MalformedForItsKind (OpenSucceeded triad success) e (λ q. cc) in
    let other : MalformedForItsKind ≡ OpenSucceeded triad success = tested.1 in
    cc

opened_tells : (asked triad : Triad) (success : OpenSuccess) (r : Result OpenSuccess DataFault) → opened_row asked r ≡ OpenSucceeded triad success
    → (r ≡ Ok success) × (success.triad ≡ triad)
opened_tells asked triad success (Err fault) e = absurd (cc)
opened_tells asked triad success (Ok other) e =
    let tested = first_of (triad_eq other.triad asked) (OpenSucceeded asked other) MalformedForItsKind (OpenSucceeded triad success) e (λ q. cc) in
    let both : OpenSucceeded asked other ≡ OpenSucceeded triad success = tested.1 in
    let own : asked ≡ triad = cc in
    let same : other ≡ success = cc in
    (ap (λ (x : OpenSuccess). Ok x) same, ap (λ (x : OpenSuccess). x.triad) (sym same) ∙ triad_parts other.triad asked tested.0 ∙ own)

opening_tells : (large : Bool) (asked triad : Triad) (success : OpenSuccess) (reply : Reply) → reply.service ≡ open_reply_service large
    → opening_row asked reply ≡ OpenSucceeded triad success → Succeeds large reply triad success
opening_tells large asked triad success reply service e =
    let opened = opened_row asked (open_reply_at reply.data_) in
    let more = is_some (slice_get reply.extra 0) in
    let zero = first_of (eqb reply.general 0) (cond more MalformedForItsKind opened) (failure_row asked (failure_at reply.data_)) (OpenSucceeded triad success)
    e
    (no_failure triad asked success (failure_at reply.data_)) in
    let alone = past more MalformedForItsKind opened (OpenSucceeded triad success) zero.1 (λ q. cc) in
    let h = opened_tells asked triad success (open_reply_at reply.data_) alone.1 in
    (service, eqb-true reply.general 0 zero.0, h.0, h.1)

open_kind_tells : (large : Bool) (k triad : Triad) (success : OpenSuccess) (reply : Reply) → open_kind_row large k reply ≡ OpenSucceeded triad success
    → Succeeds large reply triad success
open_kind_tells large k triad success reply e =
    let service = open_reply_service large in
    let tested = first_of (eqb reply.service service) (opening_row k reply) MalformedForItsKind (OpenSucceeded triad success) e (λ q. cc) in
    opening_tells large k triad success reply (eqb-true reply.service service tested.0) tested.1

asked_tells : (kind : Kind) (triad : Triad) (success : OpenSuccess) (reply : Reply) → opened_triad kind ≡ Some triad
    → kind_row kind reply ≡ OpenSucceeded triad success → Succeeds (is_large_kind kind) reply triad success
asked_tells Unconnected triad success reply opened e = absurd (cc)
asked_tells (Closing k) triad success reply opened e = absurd (cc)
asked_tells (Opening k) triad success reply opened e = open_kind_tells false k triad success reply e
asked_tells (OpeningLarge k) triad success reply opened e = open_kind_tells true k triad success reply e

read_succeeds : (kind : Kind) (r : Result Reply ReplyFault) (triad : Triad) (success : OpenSuccess) → read_row kind r ≡ OpenSucceeded triad success
    → (reply : Reply) × (r ≡ Ok reply) × Succeeds (is_large_kind kind) reply triad success
read_succeeds kind (Err fault) triad success e = absurd (cc)
read_succeeds kind (Ok reply) triad success e =
    (reply, refl, asked_tells kind triad success reply (opens_only kind (Ok reply) triad success e) e)

read_passes : (kind : Kind) (r : Result Reply ReplyFault) → read_row kind r ≡ PassedUp → (reply : Reply) × (r ≡ Ok reply) × (kind_row kind reply ≡ PassedUp)
read_passes kind (Err fault) e = absurd (cc)
read_passes kind (Ok reply) e = (reply, refl, e)

-- ---- the group

drops : (config : ModuleSettings) (s : State) (port : ℕ) (from : List ℕ) (number : ℕ) (bytes : List ℕ) (row : ReplyRow) (reason : Dropped)
    → reply_row config s port from number bytes ≡ row → reply_dropped row ≡ Some reason → DropsAs config s (Frame port from (bodies.Reply number bytes)) reason
drops config s port from number bytes row reason meets is = record {
  port = port;
  from = from;
  body = bodies.Reply number bytes;
  event_is = refl;
  meets = ap reply_dropped meets ∙ is;
}

-- the row of what waits, or of nothing that waits
waiting_told : (config : ModuleSettings) (s : State) (port : ℕ) (from : List ℕ) (number : ℕ) (bytes : List ℕ) (x : Option Entry) (row : ReplyRow)
    → waiting_at s.pendings number port from ≡ x → reply_row config s port from number bytes ≡ row → waiting_row bytes x ≡ row
    → AllTell config s (Frame port from (bodies.Reply number bytes)) (reply_effects number bytes row)
waiting_told config s port from number bytes x UnknownPortOrTooLong waits meets e =
    (drops config s port from number bytes UnknownPortOrTooLong dropped.Malformed meets refl, tt)
waiting_told config s port from number bytes x Late waits meets e = (drops config s port from number bytes Late dropped.Late meets refl, tt)
waiting_told config s port from number bytes x MalformedForItsKind waits meets e =
    (drops config s port from number bytes MalformedForItsKind dropped.Malformed meets refl, tt)
waiting_told config s port from number bytes None (OpenSucceeded triad success) waits meets e = absurd (cc)
waiting_told config s port from number bytes (Some entry) (OpenSucceeded triad success) waits meets e =
    let h = read_succeeds entry.kind (reply_at bytes) triad success e in (
      record {
        entry = entry;
        reply = h.0;
        came = record { port = port; from = from; event_is = refl; waits = waits; read = h.1 };
        kind = opens_only entry.kind (reply_at bytes) triad success e;
        service = h.2.0;
        general = h.2.1;
        read = h.2.2;
        triad_is = h.2.3;
      },
      tt,
    )
waiting_told config s port from number bytes None PassedUp waits meets e = absurd (cc)
waiting_told config s port from number bytes (Some entry) PassedUp waits meets e =
    let h = read_passes entry.kind (reply_at bytes) e in
    (record { entry = entry; reply = h.0; came = record { port = port; from = from; event_is = refl; waits = waits; read = h.1 }; meets = h.2 }, tt)

reply_told : (config : ModuleSettings) (s : State) (port : ℕ) (from : List ℕ) (number : ℕ) (bytes : List ℕ) (b : Bool)
    → reply_row config s port from number bytes ≡ cond b UnknownPortOrTooLong (waiting_row bytes (waiting_at s.pendings number port from))
    → AllTell config s (Frame port from (bodies.Reply number bytes))
    (reply_effects number bytes (cond b UnknownPortOrTooLong (waiting_row bytes (waiting_at s.pendings number port from))))
reply_told config s port from number bytes true meets = (drops config s port from number bytes UnknownPortOrTooLong dropped.Malformed meets refl, tt)
reply_told config s port from number bytes false meets =
    let x = waiting_at s.pendings number port from in
    waiting_told config s port from number bytes x (waiting_row bytes x) refl meets refl

reply_row_is : (config : ModuleSettings) (s : State) (port : ℕ) (from : List ℕ) (number : ℕ) (bytes : List ℕ)
    → reply_row config s port from number bytes
    ≡ cond (is_malformed config port bytes) UnknownPortOrTooLong (waiting_row bytes (waiting_at s.pendings number port from))
unfolding reply_row
reply_row_is config s port from number bytes = refl

pub replies_tell : (config : ModuleSettings) (s : State) (port : ℕ) (from : List ℕ) (number : ℕ) (bytes : List ℕ)
    → AllTell config s (Frame port from (bodies.Reply number bytes)) (reply_effects number bytes (reply_row config s port from number bytes))
replies_tell config s port from number bytes =
    let row = reply_row_is config s port from number bytes in
    subst (λ (r : ReplyRow). AllTell config s (Frame port from (bodies.Reply number bytes)) (reply_effects number bytes r)) (sym row)
    (reply_told config s port from number bytes (is_malformed config port bytes) row)
