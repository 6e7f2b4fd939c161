-- The trail of an Open: its path shortens from entry to entry, and the Done tells where it failed or that it was accepted at the end.
use Rattle.std.proofs.Common.{◌≡◌, ℕ, ◌/◌, ◌<◌, ◌≤◌, List, [], Ok, Option, Some, None, refl, sym, ap, subst, ◌∙◌, ◌⊎◌, inl, inr, arith, length, Bool, true}
use Rattle.std.proofs.Common.{false}
use Rattle.std.specs.Prelude.{option_map, option_and_then}
use Rattle.std.specs.FinMap as map
use Rattle.std.specs.Option.{option_map_or}
use Rattle.cip_base.specs.declared.timing.Status.{Status}
use Rattle.cip_segment.specs.Reading.{HopAt, hop_of}
use Rattle.cip_message.specs.Failure.{failure_data, HasTriadForWords}
use Rattle.cip_message.specs.Reply.{Reply, reply_bytes, reply_with, done_with}
use Rattle.cip_message.specs.ReplyAt.{reply_at}
use Rattle.cip_message.specs.declared.failure.ConnectionFailure.{ConnectionFailure}
use Rattle.cip_message.proofs.Managers.{manager_is_read}
use Rattle.cip_message.proofs.ReadAgain.{ok_reply}
use Rattle.cip_message.proofs.Replies.{reply_back}
use Rattle.cip_open.specs.Open.{Open, open_data, open_layout}
use Rattle.cip_open.specs.GoesOn.{lowered, with_ids}
use Rattle.cip_open.specs.Success.{OpenSuccess, open_reply_data, open_reply_bytes}
use Rattle.cip_pending.specs.declared.entry.Entry as entries
use Rattle.cip_pending.specs.declared.entry.Kind.{Kind}
use Rattle.cip_hops.specs.declared.hop.Held.{Held}
use Rattle.cip_hops.specs.declared.opening.HopUp.{HopUp}
use Rattle.cip_hops.specs.declared.opening.HopUp.TheVariants.{Link as UpLink, Local as UpLocal}
use Rattle.cip_hops.specs.Hops.{opening_of, ids_of}
use Rattle.cip_config.specs.declared.config.ModuleSettings.{ModuleSettings}
use Rattle.cip_config.specs.declared.config.PortConfig.{PortConfig}
use Rattle.cip_event.specs.declared.event.Body.TheVariants as bodies
use Rattle.cip_event.specs.declared.event.Event.{Event}
use Rattle.cip_event.specs.declared.event.Event.TheVariants as events
use Rattle.cip_event.specs.declared.event.Output.{Output}
use Rattle.cip_event.specs.declared.event.Output.TheVariants as outputs
use Rattle.cip_routing.specs.declared.refusals.LinkRefusal.TheVariants.{TicksSpent}
use Rattle.cip_routing.specs.Answers.{failed_at, open_failed}
use Rattle.cip_routing.specs.Effects.{Sending, timed_out_bytes, succeeded, success_up}
use Rattle.cip_routing.specs.Statuses.{link_status, open_status}
use Rattle.cip_routing.specs.Table.{words_of, accepted_bytes}
use Rattle.cip_laws.specs.Tells.{PendingTimesOutAs}
use Rattle.cip_laws.specs.Turns.{Has}
use Rattle.cip_laws.proofs.Failures.{open_fails, link_fails}
use Rattle.cip_chassis.specs.Plan.{Plan}
use Rattle.cip_chassis.specs.Nodes.{Node, Way, own_port, node_on, node_from, comes_in, leaves_by, node, across as goes}
use Rattle.cip_chassis.specs.Walk.{walk}
use Rattle.cip_chassis.proofs.Walks.{walk_goes}
use Rattle.cip_world.specs.declared.journal.Entry.TheVariants.{Step}
use Rattle.cip_world.specs.declared.journal.Input.{Input}
use Rattle.cip_world.specs.declared.journal.Input.TheVariants as inputs
use Rattle.cip_world.specs.Journals.{Journal, Flight, arrival, entry_at, event_of, frame_at}
use Rattle.cip_world.specs.Mirrors.{IsOlder}
use Rattle.cip_world.specs.Runs.{IsRun}
use Rattle.cip_world.specs.StepsIn.{StepIn, state_before}
use Rattle.cip_world.specs.TrailTells.{request_words, open_words, event_in, words_at, FailedAt, ByRow as FailedByRow, ByTick as FailedByTick}
use Rattle.cip_world.proofs.AskedOpens.{words_asked}
use Rattle.cip_world.proofs.Arrivals.{way_in}
use Rattle.cip_segment.proofs.PathsShorten.{words_fall}
use Rattle.cip_world.proofs.Moments.{number_at, before_that}
use Rattle.cip_world.proofs.OpensGo.{AsksThat, Spelled, CameSo, OpenRefused, OpenAccepted, OpenGoes, open_goes, no_answer, open_replied}
use Rattle.cip_world.proofs.Parts.{given_event}
use Rattle.cip_world.proofs.TrailSteps.{TrailTo, trail_on}
use Rattle.cip_world.proofs.WaysBack.{Arrives, PutAt, Replied, ByRow, ByTarget, ByTick, AsItCame, AsSuccess, older_frame}
use Rattle.cip_open.specs.Kinds.{open_service, open_reply_service}
use Rattle.cip_open.proofs.Services.{service_low, reply_service_high}
use Rattle.cip_message.specs.Manager.{manager_request}
use Rattle.cip_pending.specs.Kinds.{opening_kind, is_large_kind}
use Rattle.cip_base.specs.declared.triad.Triad.{Triad}

-- ---- words as received

pub event_older : (k j : Journal) (input : Input) (event : Event) → IsOlder k j → event_of k input ≡ Some event → event_of j input ≡ Some event
event_older k j (inputs.Command c) event older h = h
event_older k j (inputs.Tick ms) event older h = h
event_older k j (inputs.Frame port from name) event older h = by_frame (frame_at k name) refl h
  where
    by_frame : (x : Option Flight) → frame_at k name ≡ x → arrival port from x ≡ Some event → arrival port from (frame_at j name) ≡ Some event
    by_frame None e s = absurd (cc)
    by_frame (Some x) e s = ap (arrival port from) (older_frame k j name x older e) ∙ s

-- the event of an entry
pub event_there : (t : Plan) (j : Journal) (k : ℕ) (s : StepIn t j k) → option_and_then (event_in j) (entry_at j k) ≡ Some s.taken.event
event_there t j k s =
    ap (option_and_then (event_in j)) (ap (entry_at j) (sym s.number) ∙ number_at (Step s.at s.input s.outputs) s.before j s.is)
    ∙ event_older s.before j s.input s.taken.event (before_that (Step s.at s.input s.outputs) s.before j s.is)
    (given_event t s.before s.at.0 s.input s.taken.event s.taken.given)

asked_words : (config : ModuleSettings) (event : Event) (o : Open) → AsksThat config event o → open_words event ≡ Some (words_of o.path)
asked_words config event o (Spelled command op event_is asks) = ap open_words event_is ∙ words_asked config.identity op o command asks
asked_words config event o (CameSo port n from event_is) =
    ap open_words event_is ∙ ap request_words (manager_is_read (open_service o.fields.large) (open_data o) (service_low o.fields.large))
    ∙ words_read o.fields.large o
  where
    words_read : (large : Bool) (o : Open)
        → request_words (Ok (manager_request (open_service large) (open_layout large 0 0 0 (length o.path / 2) o))) ≡ Some (words_of o.path)
    words_read true o = refl
    words_read false o = refl

pub words_there : (t : Plan) (j : Journal) (k : ℕ) (s : StepIn t j k) (o : Open) → AsksThat s.taken.config s.taken.event o
    → words_at j k ≡ Some (words_of o.path)
words_there t j k s o asks = ap (option_and_then open_words) (event_there t j k s) ∙ asked_words s.taken.config s.taken.event o asks

-- ---- where a path leads

node_at : (o : Option Node) (from : List ℕ) (there : Way) → comes_in from o ≡ Some there → option_map (λ (n : Node). n.at) o ≡ Some there.at
node_at None from there e = absurd (cc)
node_at (Some n) from there e = let same : record { at = n.at; port = n.port.number; address = from } ≡ there = cc in ap (λ (w : Way). Some w.at) same

-- the node of a way is the module where frames come by it
across_node : (t : Plan) (way there : Way) → goes t way ≡ Some there → node t way.at way.port way.address ≡ Some there.at
across_node t way there e =
    elim (own_port t way.at way.port) as (λ (o : Option PortConfig). leaves_by t.modules way.address o ≡ Some there
    → option_map (λ (n : Node). n.at) (node_on t way.address o) ≡ Some there.at) [
      | None ↦ λ s. absurd (cc)
      | Some p ↦ λ s. node_at (node_from 0 t.modules p.link way.address) p.address there s
    ] e

-- the walk of a path goes on where its first hop leads
pub walk_on : (t : Plan) (m port : ℕ) (address path rest : List ℕ) (hop : HopAt) (there : Way) → hop_of path ≡ Some hop → port ≡ hop.port
    → address ≡ hop.address → rest ≡ hop.rest
    → goes t (way_in m port address) ≡ Some there → walk t m path ≡ walk t there.at rest
walk_on t m port address path rest hop there first port_is address_is rest_is leads =
    walk_goes t m path hop first
    ∙ (λ i. option_and_then (λ (n : ℕ). walk t n hop.rest) (node t m (sym port_is i) (sym address_is i)))
    ∙ ap (option_and_then (λ (n : ℕ). walk t n hop.rest)) (across_node t (way_in m port address) there leads)
    ∙ ap (walk t there.at) (sym rest_is)

-- ---- the next entry of an open's trail

-- it asks the open that was sent on
pub record NextOpen (t : Plan) (j : Journal) (a b : ℕ) (s : StepIn t j a) (r : StepIn t j b) (o : Open) : Type 0 where
  pub next : Open
  pub asks : AsksThat r.taken.config r.taken.event next
  pub large_is : next.fields.large ≡ o.fields.large
  pub shorter : words_of next.path < words_of o.path
  pub walks : walk t s.at.0 o.path ≡ walk t r.at.0 next.path

pub next_open : (t : Plan) (j : Journal) (a b n : ℕ) (s : StepIn t j a) (r : StepIn t j b) (o : Open) (sending : Sending) (kind : Kind) (there : Way)
    → OpenGoes s.taken.config (state_before s) s.taken.event o sending kind → goes t (way_in s.at.0 sending.port sending.address) ≡ Some there
    → r.at.0 ≡ there.at
    → r.taken.event ≡ events.Frame there.port there.address (bodies.Request n sending.bytes) → NextOpen t j a b s r o
next_open t j a b n s r o sending kind there g leads here event_is = record {
  next = lowered o g.own g.rest;
  asks = CameSo there.port n there.address (event_is ∙ ap (λ (x : List ℕ). events.Frame there.port there.address (bodies.Request n x)) g.bytes_are);
  large_is = refl;
  shorter =
      let fall = words_fall o.path g.leads.hop g.leads.first in
      let same = ap (λ (x : List ℕ). length x / 2) g.leads.rest_is in
      omega (arith, fall, same);
  walks = walk_on t s.at.0 sending.port sending.address o.path g.rest g.leads.hop there g.leads.first g.leads.port_is g.leads.address_is g.leads.rest_is leads
      ∙ ap (λ (m : ℕ). walk t m g.rest) (sym here);
}

-- ---- how an open ended

-- the bytes are a reply that can be read, and this holds of it
pub record ReadAs (P : Reply → Type 0) (bytes : List ℕ) : Type 0 where
  pub reply : Reply
  pub read : reply_at bytes ≡ Ok reply
  pub has : P reply

-- it holds of whatever is read
pub of_read : (P : Reply → Type 0) (bytes : List ℕ) (r : Reply) → reply_at bytes ≡ Ok r → ReadAs P bytes → P r
of_read P bytes r read x = subst P (ok_reply x.reply r (sym x.read ∙ read)) x.has

written : (P : Reply → Type 0) (r : Reply) (bytes : List ℕ) → 128 ≤ r.service → bytes ≡ reply_bytes r → P r → ReadAs P bytes
written P r bytes big is has = record { reply = r; read = ap reply_at is ∙ reply_back r big; has = has }

-- a success of an open, large or not
record IsSuccess (large : Bool) (r : Reply) : Type 0 where
  general_is : r.general ≡ 0
  service_is : r.service ≡ open_reply_service large

success_read : (large : Bool) (x : OpenSuccess) (bytes : List ℕ) → bytes ≡ open_reply_bytes large x → ReadAs (IsSuccess large) bytes
success_read large x bytes is =
    written (IsSuccess large) (done_with (open_reply_service large) (open_reply_data x)) bytes (reply_service_high large) is
    (record { general_is = refl; service_is = refl })

accepted_read : (o : Open) (id : ℕ) (bytes : List ℕ) → bytes ≡ accepted_bytes o id → ReadAs (IsSuccess o.fields.large) bytes
accepted_read o id bytes is =
    success_read o.fields.large
    (record { ot_id = id; to_id = o.fields.to_id; triad = o.fields.triad; ot_api = o.fields.ot_rpi; to_api = o.fields.to_rpi; reply = [] }) bytes is

-- a success that is passed on stays one
passed_read : (large : Bool) (held : Option Held) (came : List ℕ) (success : OpenSuccess) (bytes : List ℕ) (reply : Reply)
    → bytes ≡ succeeded large held came success
    → reply_at came ≡ Ok reply → IsSuccess large reply → ReadAs (IsSuccess large) bytes
passed_read large None came success bytes reply is read succeeds = record { reply = reply; read = ap reply_at is ∙ read; has = succeeds }
passed_read large (Some x) came success bytes reply is read succeeds = by_up (opening_of x).up is
  where
    by_up : (up : HopUp) → bytes ≡ success_up large up (ids_of x) came success → ReadAs (IsSuccess large) bytes
    by_up (UpLink port address id) e = success_read large (with_ids success (option_map_or (λ own. own) (ids_of x).up 0) id) bytes e
    by_up (UpLocal op) e = record { reply = reply; read = ap reply_at e ∙ read; has = succeeds }

-- the reply to an open that waited too long
late_of : (large : Bool) (triad : Triad) (words : ℕ)
    → timed_out_bytes (opening_kind large triad) words ≡ open_failed large (link_status TicksSpent) triad words
late_of true triad words = refl
late_of false triad words = refl

-- whether the open that waits so is large
kind_large : (large : Bool) (triad : Triad) → is_large_kind (opening_kind large triad) ≡ large
kind_large true triad = refl
kind_large false triad = refl

-- the reply to an open whose trail came to entry k
pub data Outcome (t : Plan) (j : Journal) (m op at : ℕ) (path : List ℕ) (r : Reply) : Type 0 where
  Failed : (place : ℕ) (step : StepIn t j place) (o : Open) → TrailTo t j m op place step → AsksThat step.taken.config step.taken.event o
      → (large : Bool) (status : Status) (failure : ConnectionFailure)
      → r ≡ reply_with (open_reply_service large) status (failure_data failure) → failure.words ≡ Some (words_of o.path)
      → HasTriadForWords failure → (status.general ≡ 0 → ⊥)
      → FailedAt t j place step status → Outcome t j m op at path r
  Ended : (place : ℕ) (step : StepIn t j place) (o : Open) (bytes : List ℕ) → TrailTo t j m op place step → AsksThat step.taken.config step.taken.event o
      → OpenAccepted step.taken.config (state_before step) step.taken.event o bytes → r.general ≡ 0 → walk t at path ≡ walk t step.at.0 o.path
      → Outcome t j m op at path r

further : (t : Plan) (j : Journal) (m op at to : ℕ) (path rest : List ℕ) (r : Reply) → walk t at path ≡ walk t to rest → Outcome t j m op to rest r
    → Outcome t j m op at path r
further t j m op at to path rest r walks (Failed place step o trail asks large status failure r_is words_is triad_there fails why) =
    Failed place step o trail asks large status failure r_is words_is triad_there fails why
further t j m op at to path rest r walks (Ended place step o bytes trail asks accepted general there) =
    Ended place step o bytes trail asks accepted general (walks ∙ there)

-- a success in place of a success
renamed : (t : Plan) (j : Journal) (m op at : ℕ) (path : List ℕ) (reply r : Reply) → reply.general ≡ 0 → r.general ≡ 0 → Outcome t j m op at path reply
    → Outcome t j m op at path r
renamed t j m op at path reply r general too (Failed place step o trail asks large status failure r_is words_is triad_there fails why) =
    absurd (fails (ap (λ (y : Reply). y.general) (sym r_is) ∙ general))
renamed t j m op at path reply r general too (Ended place step o bytes trail asks accepted was there) = Ended place step o bytes trail asks accepted too there

-- the reply to an open, large or not, has that service
pub record OpenReply (t : Plan) (j : Journal) (m op at : ℕ) (path : List ℕ) (large : Bool) (r : Reply) : Type 0 where
  pub ended : Outcome t j m op at path r
  pub service_is : r.service ≡ open_reply_service large

module _ (t : Plan) (j : Journal) (run : IsRun t j) (m op : ℕ) where
  -- what was told of an open at an entry, of a reply that can be read
  abbrev Told : ℕ → List ℕ → Bool → List ℕ → Type 0
  Told at path large bytes = ReadAs (OpenReply t j m op at path large) bytes

  by_row : (k : ℕ) (s : StepIn t j k) (bytes : List ℕ) (o : Open) → AsksThat s.taken.config s.taken.event o → TrailTo t j m op k s
      → OpenRefused s.taken.config (state_before s) s.taken.event o bytes ⊎ OpenAccepted s.taken.config (state_before s) s.taken.event o bytes
      → Told s.at.0 o.path o.fields.large bytes
  by_row k s bytes o asks to (inl refused) =
      let r = reply_with (open_reply_service refused.large) (open_status refused.refusal) (failure_data refused.failure) in
      written (OpenReply t j m op s.at.0 o.path o.fields.large) r bytes (reply_service_high refused.large) refused.bytes_are
      (record {
        ended =
            Failed k s o to asks refused.large (open_status refused.refusal) refused.failure refl refused.words_is refused.triad_there
            (open_fails refused.refusal) (FailedByRow refused.refusal refused.why refl);
        service_is = ap open_reply_service refused.large_is;
      })
  by_row k s bytes o asks to (inr accepted) =
      let success = accepted_read o (state_before s).hops.next bytes accepted.bytes_are in
      record {
        reply = success.reply;
        read = success.read;
        has = record { ended = Ended k s o bytes to asks accepted success.has.general_is refl; service_is = success.has.service_is };
      }

  by_tick : (k : ℕ) (s : StepIn t j k) (n : ℕ) (p : entries.Entry) (put : PutAt s n p) (l : ℕ) (tick : StepIn t j l) → tick.at.0 ≡ s.at.0
      → PendingTimesOutAs (state_before tick) tick.taken.event n → map.get (state_before tick).pendings.entries n ≡ Some p → k < l → (bytes : List ℕ)
      → bytes ≡ timed_out_bytes p.kind p.words
      → (o : Open) → AsksThat s.taken.config s.taken.event o → TrailTo t j m op k s
      → OpenGoes s.taken.config (state_before s) s.taken.event o put.sending p.kind → Told s.at.0 o.path o.fields.large bytes
  by_tick k s n p put l tick here ends waits later bytes bytes_are o asks to g =
      let words_is : p.words ≡ words_of o.path = put.words_is ∙ g.words_are in
      let large = g.opening.large in
      let r = reply_with (open_reply_service large) (link_status TicksSpent) (failure_data (failed_at g.opening.triad p.words)) in
      written (OpenReply t j m op s.at.0 o.path o.fields.large) r bytes (reply_service_high large)
      (bytes_are ∙ ap (λ (x : Kind). timed_out_bytes x p.words) g.kind_is ∙ late_of large g.opening.triad p.words)
      (record {
        ended =
            Failed k s o to asks large (link_status TicksSpent) (failed_at g.opening.triad p.words) refl
            (ap (λ (w : ℕ). Some w) words_is) (λ none. absurd (cc)) (link_fails TicksSpent)
            (FailedByTick (record {
              number = n;
              waiting = p;
              bytes = put.sending.bytes;
              sent =
                  subst (λ (x : Output). Has s.outputs x)
                  (λ i. outputs.Send (sym put.port_is i) (sym put.address_is i) (bodies.Request n put.sending.bytes)) put.sent;
              place = l;
              tick = tick;
              here = here;
              later = later;
              waits = waits;
              ends = ends;
            }) refl);
        service_is = ap open_reply_service g.large_is;
      })

  goes_there : (k : ℕ) (s : StepIn t j k) (n : ℕ) (p : entries.Entry) (put : PutAt s n p) (o : Open) → AsksThat s.taken.config s.taken.event o
      → OpenGoes s.taken.config (state_before s) s.taken.event o put.sending p.kind
  goes_there k s n p put o asks = open_goes s.taken.config (state_before s) s.taken.event o asks put.sending p.kind put.why

  there : (k : ℕ) (s : StepIn t j k) (n : ℕ) (p : entries.Entry) (put : PutAt s n p) (l : ℕ) (next : StepIn t j l) → Arrives t j k l s next n put.sending
      → (o : Open)
      → AsksThat s.taken.config s.taken.event o → NextOpen t j k l s next o
  there k s n p put l next arrives o asks =
      next_open t j k l n s next o put.sending p.kind arrives.there (goes_there k s n p put o asks) arrives.leads arrives.here arrives.event_is

  -- what was told below is told here
  passed_on : (at to : ℕ) (path rest : List ℕ) (large low : Bool) (bytes : List ℕ) → walk t at path ≡ walk t to rest → low ≡ large
      → Told to rest low bytes → Told at path large bytes
  passed_on at to path rest large low bytes walks same x = record {
    reply = x.reply;
    read = x.read;
    has = record {
      ended = further t j m op at to path rest x.reply walks x.has.ended;
      service_is = x.has.service_is ∙ ap open_reply_service same;
    };
  }

  succeeded_on : (at to : ℕ) (path rest : List ℕ) (large low : Bool) (bytes came : List ℕ) (reply : Reply) → walk t at path ≡ walk t to rest
      → low ≡ large → reply_at came ≡ Ok reply → reply.general ≡ 0 → (IsSuccess large reply → ReadAs (IsSuccess large) bytes)
      → Told to rest low came → Told at path large bytes
  succeeded_on at to path rest large low bytes came reply walks same read general passed below =
      let told : OpenReply t j m op to rest low reply = of_read (OpenReply t j m op to rest low) came reply read below in
      let x : ReadAs (IsSuccess large) bytes =
      passed (record { general_is = general; service_is = told.service_is ∙ ap open_reply_service same }) in
      record {
        reply = x.reply;
        read = x.read;
        has = record {
          ended =
              further t j m op at to path rest x.reply walks
              (renamed t j m op to rest reply x.reply general x.has.general_is told.ended);
          service_is = x.has.service_is;
        };
      }

  -- each reply to an open can be read, has its service, and tells how it ended
  pub open_outcome : (k : ℕ) (s : StepIn t j k) (bytes : List ℕ) → Replied t j k s bytes → (o : Open) → AsksThat s.taken.config s.taken.event o
      → TrailTo t j m op k s → ReadAs (OpenReply t j m op s.at.0 o.path o.fields.large) bytes
  open_outcome k s bytes (ByRow _ _ up _ told) o asks to =
      by_row k s bytes o asks to (open_replied s.taken.config (state_before s) s.taken.event o asks up bytes told)
  open_outcome k s bytes (ByTarget _ _ up asked _ told bytes_are) o asks to =
      absurd (no_answer s.taken.config (state_before s) s.taken.event o asks up asked told)
  open_outcome k s bytes (ByTick _ _ n p put l tick here ends waits later _ bytes_are) o asks to =
      by_tick k s n p put l tick here ends waits later bytes bytes_are o asks to (goes_there k s n p put o asks)
  open_outcome k s bytes (AsItCame _ _ n p put l next arrives _ below) o asks to =
      let on = there k s n p put l next arrives o asks in
      passed_on s.at.0 next.at.0 o.path on.next.path o.fields.large on.next.fields.large bytes on.walks on.large_is
      (open_outcome l next bytes below on.next on.asks (trail_on t j run m op k l s next n put.sending arrives to))
  open_outcome k s bytes (AsSuccess _ _ n p put l next arrives triad kind_is came reply read_below general held success _ bytes_are below) o asks to =
      let on = there k s n p put l next arrives o asks in
      let g = goes_there k s n p put o asks in
      let large : is_large_kind p.kind ≡ o.fields.large =
      ap is_large_kind g.kind_is ∙ kind_large g.opening.large g.opening.triad ∙ g.large_is in
      succeeded_on s.at.0 next.at.0 o.path on.next.path o.fields.large on.next.fields.large bytes came reply on.walks on.large_is read_below general
      (passed_read o.fields.large held came success bytes reply (bytes_are ∙ ap (λ (b : Bool). succeeded b held came success) large) read_below)
      (open_outcome l next came below on.next on.asks (trail_on t j run m op k l s next n put.sending arrives to))
