-- The trail of a Send: its Done tells a failure on the way, or it is the answer of the target at the last entry.
use Rattle.std.proofs.Common.{◌≡◌, ℕ, Bool, true, false, cond, List, [], ◌∷◌, Ok, Option, Some, None, refl, sym, ap, subst, ◌∙◌, arith, length, eqb}
use Rattle.std.specs.Prelude.{slice_index}
use Rattle.std.proofs.lemmas.Bool.{eqb-true}
use Rattle.cip_segment.specs.Reading.{HopAt, hop_of}
use Rattle.cip_message.specs.Reply.{reply_bytes}
use Rattle.cip_message.specs.Request.{Request}
use Rattle.cip_message.specs.RequestAt.{request_at}
use Rattle.cip_unconnected.specs.Unconnected.{Unconnected, unconnected_bytes}
use Rattle.cip_unconnected.specs.GoesOn.{lowered}
use Rattle.cip_pending.specs.declared.entry.Entry as entries
use Rattle.cip_pending.specs.declared.entry.Kind.{Kind}
use Rattle.cip_pending.specs.Kinds.{opened_triad}
use Rattle.cip_event.specs.declared.event.Body.TheVariants as bodies
use Rattle.cip_event.specs.declared.event.Event.TheVariants as events
use Rattle.cip_event.specs.declared.event.Output.{Output}
use Rattle.cip_routing.specs.declared.refusals.LinkRefusal.TheVariants.{TicksSpent}
use Rattle.cip_routing.specs.Effects.{Sending, here_answer, timed_out_bytes}
use Rattle.cip_routing.specs.Statuses.{link_status}
use Rattle.cip_laws.specs.Turns.{Has}
use Rattle.cip_chassis.specs.Plan.{Plan}
use Rattle.cip_chassis.specs.Walk.{walk}
use Rattle.cip_chassis.proofs.Walks.{walk_ends}
use Rattle.cip_world.specs.Journals.{Journal}
use Rattle.cip_world.specs.Runs.{IsRun}
use Rattle.cip_world.specs.StepsIn.{StepIn, state_before}
use Rattle.cip_world.specs.Trails.{request_from}
use Rattle.cip_segment.proofs.PathsShorten.{hop_takes_two}
use Rattle.cip_world.proofs.OneRequest.{none_first}
use Rattle.cip_world.proofs.OpenTrails.{walk_on}
use Rattle.cip_world.proofs.PutIn.{SentFor}
use Rattle.cip_world.proofs.SendsGo.{is_failed, AsksSendThat, CameSo, SendGoes, send_goes, send_replied, send_answered, AsksItself, itself_stays}
use Rattle.cip_world.proofs.SendsGo.{itself_replied, itself_answered}
use Rattle.cip_world.proofs.TrailSteps.{TrailTo, trail_on}
use Rattle.cip_world.proofs.WaysBack.{Arrives, PutAt, Replied, ByRow, ByTarget, ByTick, AsItCame, AsSuccess}
use Rattle.cip_world.proofs.WordsFall.{RequestOut, request_out, WasSent, was_sent}

-- nothing names no hop
pub no_hop : hop_of [] ≡ None
no_hop = by_hop (hop_of []) refl
  where
    by_hop : (x : Option HopAt) → hop_of [] ≡ x → x ≡ None
    by_hop None e = refl
    by_hop (Some hop) e = let two = hop_takes_two [] hop e in absurd (omega (arith, two))

-- a step that sends nothing on sent no request
pub none_sent : (t : Plan) (j : Journal) (k : ℕ) → IsRun t j → (s : StepIn t j k)
    → ((sending : Sending) (kind : Kind) → SentFor s.taken.config (state_before s) s.taken.event sending kind → ⊥) → request_from 0 s.outputs ≡ None
none_sent t j k run s none =
    none_first s.outputs 0 (λ o h is.
    let out : RequestOut o = request_out o is in
    let was : WasSent t j k s out.port out.to out.bytes =
    was_sent t j k run s out.port out.n out.to out.bytes (subst (λ (x : Output). Has s.outputs x) out.is h) in
    none was.sending was.kind was.why)

-- the reply to an Unconnected_Send whose trail came to an entry: it failed, or its target answered
pub data SendOutcome (t : Plan) (j : Journal) (m op at : ℕ) (route asked bytes : List ℕ) : Type 0 where
  Failed : slice_index bytes 0 ≡ 0xD2 → SendOutcome t j m op at route asked bytes
  Answered : (place : ℕ) (step : StepIn t j place) (r : Request) → TrailTo t j m op place step → request_from 0 step.outputs ≡ None → request_at asked ≡ Ok r
      → walk t at route ≡ Some (record { at = step.at.0; path = [] }) → bytes ≡ reply_bytes (here_answer step.taken.config (state_before step) r)
      → SendOutcome t j m op at route asked bytes

further : (t : Plan) (j : Journal) (m op at to : ℕ) (route rest asked bytes : List ℕ) → walk t at route ≡ walk t to rest
    → SendOutcome t j m op to rest asked bytes
    → SendOutcome t j m op at route asked bytes
further t j m op at to route rest asked bytes walks (Failed e) = Failed e
further t j m op at to route rest asked bytes walks (Answered place step r trail none read there answer) =
    Answered place step r trail none read (walks ∙ there) answer

module _ (t : Plan) (j : Journal) (run : IsRun t j) (m op : ℕ) where
  -- what the embedded request is answered where it came by itself
  itself_outcome : (k : ℕ) (s : StepIn t j k) (bytes asked : List ℕ) (r : Request) → Replied t j k s bytes → AsksItself s.taken.event asked r
      → bytes ≡ reply_bytes (here_answer s.taken.config (state_before s) r)
  itself_outcome k s bytes asked r (ByRow _ _ up _ told) is =
      itself_replied s.taken.config (state_before s) s.taken.event asked r is up bytes told
  itself_outcome k s bytes asked r (ByTarget _ _ up x _ told bytes_are) is =
      bytes_are ∙ ap (λ (y : Request). reply_bytes (here_answer s.taken.config (state_before s) y))
      (itself_answered s.taken.config (state_before s) s.taken.event asked r is up x told)
  itself_outcome k s bytes asked r (ByTick _ _ n p put l tick here ends waits later _ bytes_are) is =
      absurd (itself_stays s.taken.config (state_before s) s.taken.event asked r is put.sending p.kind put.why)
  itself_outcome k s bytes asked r (AsItCame _ _ n p put l next arrives _ below) is =
      absurd (itself_stays s.taken.config (state_before s) s.taken.event asked r is put.sending p.kind put.why)
  itself_outcome k s bytes asked r (AsSuccess _ _ n p put l next arrives triad kind_is came reply read_below general held success _ bytes_are below) is =
      absurd (itself_stays s.taken.config (state_before s) s.taken.event asked r is put.sending p.kind put.why)

  goes_there : (k : ℕ) (s : StepIn t j k) (n : ℕ) (p : entries.Entry) (put : PutAt s n p) (u : Unconnected) → AsksSendThat s.taken.event u
      → SendGoes s.taken.config (state_before s) s.taken.event u put.sending p.kind
  goes_there k s n p put u asks = send_goes s.taken.config (state_before s) s.taken.event u asks put.sending p.kind put.why

  no_length : (b : List ℕ) → length b ≡ 0 → b ≡ []
  no_length [] e = refl
  no_length (x ∷ b) e = absurd (omega (arith, e))

  -- the walk of the route goes on with it
  goes_by : (k : ℕ) (s : StepIn t j k) (u : Unconnected) (n : ℕ) (sending : Sending) (kind : Kind) (l : ℕ) (next : StepIn t j l)
      → Arrives t j k l s next n sending
      → (g : SendGoes s.taken.config (state_before s) s.taken.event u sending kind) → walk t s.at.0 u.route ≡ walk t next.at.0 g.rest
  goes_by k s u n sending kind l next arrives g =
      let h = g.leads in
      walk_on t s.at.0 sending.port sending.address u.route g.rest h.hop arrives.there h.first h.port_is h.address_is h.rest_is arrives.leads
      ∙ ap (λ (x : ℕ). walk t x g.rest) (sym arrives.here)

  -- what goes on is the embedded request where no route is left, else an Unconnected_Send
  by_rest : (k : ℕ) (s : StepIn t j k) (bytes : List ℕ) (u : Unconnected) (n : ℕ) (sending : Sending) (kind : Kind) (l : ℕ) (next : StepIn t j l)
      → Arrives t j k l s next n sending
      → Replied t j l next bytes → TrailTo t j m op l next → (g : SendGoes s.taken.config (state_before s) s.taken.event u sending kind)
      → ((v : Unconnected) → AsksSendThat next.taken.event v → SendOutcome t j m op next.at.0 v.route v.request bytes)
      → (b : Bool) → eqb (length g.rest) 0 ≡ b → sending.bytes ≡ cond b u.request (unconnected_bytes (lowered u g.rest))
      → SendOutcome t j m op s.at.0 u.route u.request bytes
  by_rest k s bytes u n sending kind l next arrives below to g ih true none sends =
      let is : AsksItself next.taken.event u.request g.embedded = record {
        port = arrives.there.port;
        n = n;
        from = arrives.there.address;
        event_is = arrives.event_is ∙ ap (λ (x : List ℕ). events.Frame arrives.there.port arrives.there.address (bodies.Request n x)) sends;
        read = g.read;
        allowed_ = g.allowed_;
      } in
      let empty : g.rest ≡ [] = no_length g.rest (eqb-true (length g.rest) 0 none) in
      Answered l next g.embedded to
      (none_sent t j l run next (λ more kind why. itself_stays next.taken.config (state_before next) next.taken.event u.request g.embedded is more kind why))
      g.read
      (goes_by k s u n sending kind l next arrives g ∙ ap (walk t next.at.0) empty ∙ walk_ends t next.at.0 [] no_hop)
      (itself_outcome l next bytes u.request g.embedded below is)
  by_rest k s bytes u n sending kind l next arrives below to g ih false some sends =
      further t j m op s.at.0 next.at.0 u.route g.rest u.request bytes
      (goes_by k s u n sending kind l next arrives g)
      (ih (lowered u g.rest)
      (CameSo arrives.there.port n arrives.there.address
      (arrives.event_is ∙ ap (λ (x : List ℕ). events.Frame arrives.there.port arrives.there.address (bodies.Request n x)) sends)))

  pub send_outcome : (k : ℕ) (s : StepIn t j k) (bytes : List ℕ) → Replied t j k s bytes → (u : Unconnected) → AsksSendThat s.taken.event u
      → TrailTo t j m op k s
      → SendOutcome t j m op s.at.0 u.route u.request bytes
  send_outcome k s bytes (ByRow _ _ up _ told) u asks to = Failed (send_replied s.taken.config (state_before s) s.taken.event u asks up bytes told)
  send_outcome k s bytes (ByTarget _ _ up x _ told bytes_are) u asks to =
      let is = send_answered s.taken.config (state_before s) s.taken.event u asks up x told in
      Answered k s x to
      (none_sent t j k run s (λ more kind why.
      let g = send_goes s.taken.config (state_before s) s.taken.event u asks more kind why in
      let two = hop_takes_two u.route g.leads.hop g.leads.first in
      let empty = ap (λ (b : List ℕ). length b) is.0 in
      omega (arith, two, empty)))
      is.1 (ap (walk t s.at.0) is.0 ∙ walk_ends t s.at.0 [] no_hop) bytes_are
  send_outcome k s bytes (ByTick _ _ n p put l tick here ends waits later _ bytes_are) u asks to =
      Failed (is_failed (link_status TicksSpent) (Some p.words) bytes (bytes_are
      ∙ ap (λ (x : Kind). timed_out_bytes x p.words) (goes_there k s n p put u asks).kind_is))
  send_outcome k s bytes (AsItCame _ _ n p put l next arrives _ below) u asks to =
      let g = goes_there k s n p put u asks in
      let on = trail_on t j run m op k l s next n put.sending arrives to in
      by_rest k s bytes u n put.sending p.kind l next arrives below on g
      (λ v is. send_outcome l next bytes below v is on) (eqb (length g.rest) 0) refl g.bytes_are
  send_outcome k s bytes (AsSuccess _ _ n p put l next arrives triad kind_is came reply read_below general held success _ bytes_are below) u asks to =
      let g = goes_there k s n p put u asks in
      let no : Some triad ≡ None = sym kind_is ∙ ap opened_triad g.kind_is in absurd (cc)
