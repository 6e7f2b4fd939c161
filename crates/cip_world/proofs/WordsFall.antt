-- Words fall strictly along the trail of an Open: each entry sent on what is left of the path behind its hop.
use Rattle.std.proofs.Common.{◌≡◌, ℕ, ◌+◌, ◌<◌, Bool, true, false, cond, List, [], ◌∷◌, ◌++◌, Option, Some, None, refl, sym, ap, subst, ◌∙◌, ◌⊎◌, inl, inr}
use Rattle.std.proofs.Common.{arith, append-nil, length, eqb}
use Rattle.std.specs.Prelude.{slice_get, option_map, option_and_then}
use Rattle.std.proofs.lemmas.Bool.{eqb-true, and_parts}
use Rattle.cip_base.specs.declared.numbers.ModuleId.{ModuleId}
use Rattle.cip_base.proofs.MapCases.{some_same}
use Rattle.cip_open.specs.Open.{Open}
use Rattle.cip_pending.specs.declared.entry.Kind.{Kind}
use Rattle.cip_event.specs.declared.event.Body.TheVariants as bodies
use Rattle.cip_event.specs.declared.event.Event.{Event}
use Rattle.cip_event.specs.declared.event.Event.TheVariants as events
use Rattle.cip_event.specs.declared.event.Output.{Output}
use Rattle.cip_event.specs.declared.event.Output.TheVariants as outputs
use Rattle.cip_routing.specs.Effects.{Sending, kind_for, applied}
use Rattle.cip_laws.specs.Histories.{state_after}
use Rattle.cip_laws.specs.Outputs.{GaveBy, RequestBy, ByForward, ByBegin}
use Rattle.cip_routing.specs.Table.{words_of}
use Rattle.cip_laws.specs.Turns.{Has}
use Rattle.cip_laws.proofs.GaveBy.{gave_by}
use Rattle.cip_laws.proofs.RequestBy.{request_by}
use Rattle.cip_laws.proofs.Turns.{Turned}
use Rattle.cip_chassis.specs.Plan.{Plan}
use Rattle.cip_chassis.specs.Nodes.{Way, across as goes}
use Rattle.cip_world.specs.declared.journal.Entry.{Entry}
use Rattle.cip_world.specs.declared.journal.Entry.TheVariants.{Step, Lost}
use Rattle.cip_event.specs.declared.frame.FrameName.{FrameName}
use Rattle.cip_world.specs.declared.journal.Input.{Input}
use Rattle.cip_world.specs.declared.journal.Input.TheVariants as inputs
use Rattle.cip_world.specs.Journals.{Journal, Flight, entry_at, event_of, frame_at, same_name, part}
use Rattle.cip_world.specs.Mirrors.{IsOlder}
use Rattle.cip_world.specs.Runs.{IsRun}
use Rattle.cip_world.specs.StepsIn.{StepIn, state_before}
use Rattle.cip_world.specs.Trails.{is_request_sent, named, request_of, request_from, arrived_in, trail_of}
use Rattle.cip_world.specs.TrailTells.{open_words, event_in, words_at, FallBelow, WordsFall, IsOn}
use Rattle.cip_world.proofs.Arrivals.{way_in, name_eq}
use Rattle.cip_world.proofs.Entries.{step_older, turned_in}
use Rattle.cip_world.proofs.Frames.{has_at}
use Rattle.cip_world.proofs.Moments.{itself}
use Rattle.cip_world.proofs.OneRequest.{FirstSent, first_is}
use Rattle.cip_world.proofs.OpensGo.{AsksThat, open_goes}
use Rattle.cip_world.proofs.OpenTrails.{event_older, words_there, NextOpen, next_open}
use Rattle.cip_world.proofs.Parts.{turn_of}
use Rattle.cip_world.proofs.PutIn.{SentFor, Forwarded, Begun}
use Rattle.cip_world.proofs.TrailGrows.{arrived, entry_older}
use Rattle.cip_world.proofs.TrailSteps.{with_entry, TrailTo, grows_from, request_in, tip_end}
use Rattle.cip_world.proofs.WaysBack.{step_frame}

-- ---- words stay

entry_within : (j : Journal) (k : ℕ) (x : Entry) → entry_at j k ≡ Some x → k < length j
entry_within [] k x h = absurd (cc)
entry_within (e ∷ j) k x h =
    elim (eqb k (length j)) as (λ b. eqb k (length j) ≡ b → cond b (Some e) (entry_at j k) ≡ Some x → k < length (e ∷ j)) [
      | true ↦ λ t s. let same = eqb-true k (length j) t in omega (arith, same)
      | false ↦ λ t s. let less = entry_within j k x s in omega (arith, less)
    ] refl h

words_newer : (e : Entry) (j : Journal) (k w : ℕ) → words_at j k ≡ Some w → words_at (e ∷ j) k ≡ Some w
words_newer e j k w h = by_entry (entry_at j k) refl h
  where
    by_event : (m : ModuleId) (input : Input) (outs : List Output) (o : Option Event) → entry_at j k ≡ Some (Step m input outs) → event_of j input ≡ o
        → option_and_then open_words o ≡ Some w → words_at (e ∷ j) k ≡ Some w
    by_event m input outs None at is s = absurd (cc)
    by_event m input outs (Some event) at is s =
        ap (λ (x : Option Entry). option_and_then open_words (option_and_then (event_in (e ∷ j)) x))
        (entry_older e j k (entry_within j k (Step m input outs) at) ∙ at)
        ∙ ap (option_and_then open_words) (event_older j (e ∷ j) input event (inr (itself j)) is) ∙ s

    by_entry : (x : Option Entry) → entry_at j k ≡ x → option_and_then open_words (option_and_then (event_in j) x) ≡ Some w → words_at (e ∷ j) k ≡ Some w
    by_entry None at s = absurd (cc)
    by_entry (Some (Step m input outs)) at s = by_event m input outs (event_of j input) at refl s
    by_entry (Some (Lost frame)) at s = absurd (cc)

below_newer : (e : Entry) (j : Journal) (most : ℕ) (ks : List ℕ) → FallBelow j most ks → FallBelow (e ∷ j) most ks
below_newer e j most [] h = tt
below_newer e j most (k ∷ ks) h = (h.0, words_newer e j k h.0 h.1, h.2, below_newer e j h.0 ks h.3)

falls_newer : (e : Entry) (j : Journal) (ks : List ℕ) → WordsFall j ks → WordsFall (e ∷ j) ks
falls_newer e j [] h = tt
falls_newer e j (k ∷ ks) h = (h.0, words_newer e j k h.0 h.1, below_newer e j h.0 ks h.2)

same_words : (j : Journal) (k v w : ℕ) → words_at j k ≡ Some v → words_at j k ≡ Some w → v ≡ w
same_words j k v w a b = some_same v w (sym a ∙ b)

below_more : (j : Journal) (most : ℕ) (ks : List ℕ) (a b v w : ℕ) → FallBelow j most (ks ++ (a ∷ [])) → words_at j a ≡ Some v → words_at j b ≡ Some w → w < v
    → FallBelow j most ((ks ++ (a ∷ [])) ++ (b ∷ []))
below_more j most [] a b v w h va wb less = let same = same_words j a h.0 v h.1 va in (h.0, h.1, h.2, (w, wb, omega (arith, less, same), tt))
below_more j most (k ∷ ks) a b v w h va wb less = (h.0, h.1, h.2, below_more j h.0 ks a b v w h.3 va wb less)

falls_more : (j : Journal) (ks : List ℕ) (a b v w : ℕ) → WordsFall j (ks ++ (a ∷ [])) → words_at j a ≡ Some v → words_at j b ≡ Some w → w < v
    → WordsFall j ((ks ++ (a ∷ [])) ++ (b ∷ []))
falls_more j [] a b v w h va wb less = let same = same_words j a h.0 v h.1 va in (h.0, h.1, (w, wb, omega (arith, less, same), tt))
falls_more j (k ∷ ks) a b v w h va wb less = (h.0, h.1, below_more j h.0 ks a b v w h.2 va wb less)

-- ---- the end of the trail

-- the trail ends at an entry that asks an open, and words fell so far
pub record OpenTip (t : Plan) (j : Journal) (m op : ℕ) : Type 0 where
  pub number : ℕ
  pub step : StepIn t j number
  pub o : Open
  pub asks : AsksThat step.taken.config step.taken.event o
  pub front : List ℕ
  pub trail : trail_of j m op ≡ front ++ (number ∷ [])
  pub falls : WordsFall j (front ++ (number ∷ []))

pub record RequestOut (o : Output) : Type 0 where
  pub port : ℕ
  pub to : List ℕ
  pub n : ℕ
  pub bytes : List ℕ
  pub is : o ≡ outputs.Send port to (bodies.Request n bytes)

pub request_out : (o : Output) → is_request_sent o ≡ true → RequestOut o
request_out (outputs.Send port to (bodies.Request n bytes)) h = record { port = port; to = to; n = n; bytes = bytes; is = refl }
request_out (outputs.Send port to (bodies.Reply n bytes)) h = absurd (cc)
request_out (outputs.Send port to (bodies.Data n bytes)) h = absurd (cc)
request_out (outputs.Done op reply) h = absurd (cc)
request_out (outputs.Refused fault) h = absurd (cc)
request_out (outputs.Consumed triad instance bytes) h = absurd (cc)
request_out (outputs.Arrived op bytes) h = absurd (cc)
request_out (outputs.Expired triad) h = absurd (cc)
request_out (outputs.Ended op) h = absurd (cc)
request_out (outputs.Dropped reason) h = absurd (cc)

-- what was sent, and why
pub record WasSent (t : Plan) (j : Journal) (k : ℕ) (s : StepIn t j k) (port : ℕ) (to bytes : List ℕ) : Type 0 where
  pub sending : Sending
  pub kind : Kind
  pub why : SentFor s.taken.config (state_before s) s.taken.event sending kind
  pub port_is : sending.port ≡ port
  pub to_is : sending.address ≡ to
  pub bytes_are : sending.bytes ≡ bytes

pub was_sent : (t : Plan) (j : Journal) (k : ℕ) → IsRun t j → (s : StepIn t j k) (port n : ℕ) (to bytes : List ℕ)
    → Has s.outputs (outputs.Send port to (bodies.Request n bytes))
    → WasSent t j k s port to bytes
was_sent t j k run s port n to bytes has =
    by_effect
    (request_by port n to bytes s.taken.config (state_before s) s.taken.event (applied s.taken.config (state_before s) g.before) g.effect g.tells g.gives)
  where
    turn : Turned s.taken.config (state_before s) s.taken.event (state_after s.taken.config (turn_of s.taken.event s.outputs ∷ part s.at.0 s.before)) s.outputs
    turn = turned_in t j k run s

    g : GaveBy s.taken.config (state_before s) s.taken.event turn.effects (outputs.Send port to (bodies.Request n bytes))
    g = gave_by s.taken.config (state_before s) s.taken.event (state_after s.taken.config (turn_of s.taken.event s.outputs ∷ part s.at.0 s.before)) s.outputs
        (outputs.Send port to (bodies.Request n bytes)) turn has

    by_effect : RequestBy s.taken.config (state_before s) s.taken.event g.effect port to bytes → WasSent t j k s port to bytes
    by_effect (ByForward sending kind is h p a b) = record { sending = sending; kind = kind; why = Forwarded h; port_is = p; to_is = a; bytes_are = b }
    by_effect (ByBegin sending o is h p a b) =
        record { sending = sending; kind = kind_for o; why = Begun o refl h; port_is = p; to_is = a; bytes_are = b }

-- ---- the next entry of the journal

module _ (t : Plan) (j : Journal) (m op : ℕ) where
  stays : (e : Entry) (tip : OpenTip t j m op) → arrived (request_of j tip.number) e ≡ false → OpenTip t (e ∷ j) m op
  stays e tip not_next = record {
    number = tip.number;
    step = step_older t j (e ∷ j) tip.number (inr (itself j)) tip.step;
    o = tip.o;
    asks = tip.asks;
    front = tip.front;
    trail = grows_from e j m op tip.number (tip.front ++ (tip.number ∷ [])) false tip.trail (tip_end tip.front tip.number) not_next
        ∙ append-nil (tip.front ++ (tip.number ∷ []));
    falls = falls_newer e j (tip.front ++ (tip.number ∷ [])) tip.falls;
  }

  -- what arrives is the request that the last entry sent
  module _ (n : ModuleId) (port : ℕ) (from : List ℕ) (g : FrameName) (outs : List Output) (run : IsRun t (Step n (inputs.Frame port from g) outs ∷ j))
      (tip : OpenTip t j m op) (f : FrameName)
      (sent : request_of j tip.number ≡ Some f) (same : same_name f g ≡ true) where
    abbrev e : Entry
    e = Step n (inputs.Frame port from g) outs

    names : f ≡ g
    names =
        let both =
        and_parts (eqb f.entry g.entry) (eqb f.output g.output) same in name_eq f g (eqb-true f.entry g.entry both.0) (eqb-true f.output g.output both.1)

    first : (i : ℕ) × (request_from 0 tip.step.outputs ≡ Some i) × (f ≡ named tip.number i)
    first = by_first (request_from 0 tip.step.outputs) refl (sym (request_in t j tip.number tip.step j tip.step.is) ∙ sent)
      where
        by_first : (o : Option ℕ) → request_from 0 tip.step.outputs ≡ o → option_map (named tip.number) o ≡ Some f
            → (i : ℕ) × (request_from 0 tip.step.outputs ≡ Some i) × (f ≡ named tip.number i)
        by_first None is h = absurd (cc)
        by_first (Some i) is h = (i, is, some_same f (named tip.number i) (sym h))

    there : FirstSent tip.step.outputs 0 first.0
    there = first_is tip.step.outputs 0 first.0 first.1

    out : RequestOut there.output
    out = request_out there.output there.is

    at : slice_get tip.step.outputs there.place ≡ Some (outputs.Send out.port out.to (bodies.Request out.n out.bytes))
    at = there.at ∙ ap (λ (o : Output). Some o) out.is

    name_is : g ≡ named tip.number there.place
    name_is = let zero_on = there.place_is in let place : first.0 ≡ there.place = omega (arith, zero_on) in sym names ∙ first.2 ∙ ap (named tip.number) place

    flight_is : run.1.given.waits.flight ≡ record { way = way_in tip.step.at.0 out.port out.to; body = bodies.Request out.n out.bytes }
    flight_is = some_same run.1.given.waits.flight (record { way = way_in tip.step.at.0 out.port out.to; body = bodies.Request out.n out.bytes })
        (sym run.1.given.waits.sent ∙ ap (frame_at j) name_is
        ∙ step_frame t j tip.number there.place out.port out.to (bodies.Request out.n out.bytes) tip.step at)

    why : WasSent t j tip.number tip.step out.port out.to out.bytes
    why = was_sent t j tip.number run.0 tip.step out.port out.n out.to out.bytes (has_at tip.step.outputs there.place _ at)

    abbrev older_step : StepIn t (e ∷ j) tip.number
    older_step = step_older t j (e ∷ j) tip.number (inr (itself j)) tip.step

    abbrev newest_step : StepIn t (e ∷ j) (length j)
    newest_step = record { at = n; input = inputs.Frame port from g; outputs = outs; before = j; is = inl refl; number = refl; taken = run.1 }

    leads : goes t (way_in tip.step.at.0 why.sending.port why.sending.address) ≡ Some (way_in n.0 port from)
    leads =
        (λ i. goes t (way_in tip.step.at.0 (why.port_is i) (why.to_is i))) ∙ ap (λ (x : Flight). goes t x.way) (sym flight_is)
        ∙ run.1.given.waits.leads ∙ ap (λ (w : Way). Some w) run.1.given.here

    event_is : run.1.event ≡ events.Frame port from (bodies.Request out.n why.sending.bytes)
    event_is = run.1.given.event_is ∙ ap (λ (x : Flight). events.Frame port from x.body) flight_is
        ∙ ap (λ (b : List ℕ). events.Frame port from (bodies.Request out.n b)) (sym why.bytes_are)

    next : NextOpen t (e ∷ j) tip.number (length j) older_step newest_step tip.o
    next = next_open t (e ∷ j) tip.number (length j) out.n older_step newest_step tip.o why.sending why.kind (way_in n.0 port from)
        (open_goes tip.step.taken.config (state_before tip.step) tip.step.taken.event tip.o tip.asks why.sending why.kind why.why) leads refl event_is

    goes_further : OpenTip t (e ∷ j) m op
    goes_further = record {
      number = length j;
      step = newest_step;
      o = next.next;
      asks = next.asks;
      front = tip.front ++ (tip.number ∷ []);
      trail = grows_from e j m op tip.number (tip.front ++ (tip.number ∷ [])) true tip.trail (tip_end tip.front tip.number)
          (ap (λ (o : Option FrameName). arrived o e) sent ∙ same);
      falls = falls_more (e ∷ j) tip.front tip.number (length j) (words_of tip.o.path) (words_of next.next.path)
          (falls_newer e j (tip.front ++ (tip.number ∷ [])) tip.falls) (words_there t (e ∷ j) tip.number older_step tip.o tip.asks)
          (words_there t (e ∷ j) (length j) newest_step next.next next.asks) next.shorter;
    }

  by_input : (n : ModuleId) (input : Input) (outs : List Output) → IsRun t (Step n input outs ∷ j) → (tip : OpenTip t j m op) (f : FrameName)
      → request_of j tip.number ≡ Some f
      → arrived_in f (Step n input outs) ≡ true → OpenTip t (Step n input outs ∷ j) m op
  by_input n (inputs.Frame port from g) outs run tip f sent same = goes_further n port from g outs run tip f sent same
  by_input n (inputs.Command c) outs run tip f sent same = absurd (cc)
  by_input n (inputs.Tick ms) outs run tip f sent same = absurd (cc)

  by_arrival : (e : Entry) → IsRun t (e ∷ j) → (tip : OpenTip t j m op) (o : Option FrameName) → request_of j tip.number ≡ o → arrived o e ≡ true
      → OpenTip t (e ∷ j) m op
  by_arrival (Step n input outs) run tip (Some f) sent same = by_input n input outs run tip f sent same
  by_arrival (Lost frame) run tip (Some f) sent same = absurd (cc)
  by_arrival e run tip None sent same = absurd (cc)

  tip_next : (e : Entry) → IsRun t (e ∷ j) → OpenTip t j m op → OpenTip t (e ∷ j) m op
  tip_next e run tip = by_test (arrived (request_of j tip.number) e) refl
    where
      by_test : (b : Bool) → arrived (request_of j tip.number) e ≡ b → OpenTip t (e ∷ j) m op
      by_test true is = by_arrival e run tip (request_of j tip.number) refl is
      by_test false is = stays e tip is

-- ---- the whole journal

moved : (t : Plan) (k j : Journal) (m op : ℕ) → k ≡ j → OpenTip t k m op → OpenTip t j m op
moved t k j m op same tip = subst (λ (x : Journal). OpenTip t x m op) same tip

-- from the entry of the command on
open_tip : (t : Plan) (k j : Journal) (m op : ℕ) → IsRun t j → IsOlder k j → OpenTip t k m op → OpenTip t j m op
open_tip t k [] m op run older tip = moved t k [] m op older tip
open_tip t k (e ∷ j) m op run (inl same) tip = moved t k (e ∷ j) m op same tip
open_tip t k (e ∷ j) m op run (inr older) tip = tip_next t j m op e run (open_tip t k j m op run.0 older tip)

pub trail_falls : (t : Plan) (j : Journal) (m op k : ℕ) → IsRun t j → (s : StepIn t j k) (o : Open) → AsksThat s.taken.config s.taken.event o
    → (to : TrailTo t j m op k s) → to.front ≡ []
    → WordsFall j (trail_of j m op)
trail_falls t j m op k run s o asks to first =
    let newest : StepIn t (with_entry s) k =
    record { at = s.at; input = s.input; outputs = s.outputs; before = s.before; is = inl refl; number = s.number; taken = s.taken } in
    let tip = open_tip t (with_entry s) j m op run s.is (record {
      number = k;
      step = newest;
      o = o;
      asks = asks;
      front = [];
      trail = to.is ∙ ap (λ (xs : List ℕ). xs ++ (k ∷ [])) first;
      falls = (words_of o.path, words_there t (with_entry s) k newest o asks, tt);
    }) in
    subst (WordsFall j) (sym tip.trail) tip.falls

-- ---- one entry of so many words

-- below the most, none has as many
none_below : (j : Journal) (most : ℕ) (ks : List ℕ) (k w : ℕ) → FallBelow j most ks → IsOn k ks → words_at j k ≡ Some w → w < most
none_below j most ks k w h on is = by_front on.front ks most h on.is
  where
    by_front : (front ls : List ℕ) (top : ℕ) → FallBelow j top ls → ls ≡ front ++ (k ∷ on.behind) → w < top
    by_front [] [] top h e = absurd (cc)
    by_front [] (x ∷ ls) top h e =
        let same : x ≡ k = cc in
        let words = same_words j k h.0 w (ap (words_at j) (sym same) ∙ h.1) is in
        let less = h.2 in
        omega (arith, words, less)
    by_front (y ∷ front) [] top h e = absurd (cc)
    by_front (y ∷ front) (x ∷ ls) top h e =
        let rest : ls ≡ front ++ (k ∷ on.behind) = cc in
        let less = by_front front ls h.0 h.3 rest in
        let here = h.2 in
        omega (arith, less, here)

on_rest : (x k : ℕ) (ks : List ℕ) → IsOn k (x ∷ ks) → (k ≡ x) ⊎ IsOn k ks
on_rest x k ks on = by_front on.front on.is
  where
    by_front : (front : List ℕ) → x ∷ ks ≡ front ++ (k ∷ on.behind) → (k ≡ x) ⊎ IsOn k ks
    by_front [] e = inl (cc)
    by_front (y ∷ front) e = inr (record { front = front; behind = on.behind; is = cc })

-- where words fall strictly, two entries of the same words are one
only_below : (j : Journal) (most : ℕ) (ks : List ℕ) (k l w : ℕ) → FallBelow j most ks → IsOn k ks → IsOn l ks → words_at j k ≡ Some w → words_at j l ≡ Some w
    → k ≡ l
only_below j most [] k l w h a b p q = absurd (no_on a.front a.is)
  where
    no_on : (front : List ℕ) → [] ≡ front ++ (k ∷ a.behind) → ⊥
    no_on [] e = cc
    no_on (y ∷ front) e = cc
only_below j most (x ∷ ks) k l w h a b p q =
    elim (on_rest x k ks a) [
      | inl here ↦ elim (on_rest x l ks b) [
        | inl too ↦ here ∙ sym too
        | inr on ↦
            let less = none_below j h.0 ks l w h.3 on q in
            let words = same_words j x h.0 w h.1 (ap (words_at j) (sym here) ∙ p) in
            absurd (omega (arith, less, words))
      ]
      | inr on ↦ elim (on_rest x l ks b) [
        | inl here ↦
            let less = none_below j h.0 ks k w h.3 on p in
            let words = same_words j x h.0 w h.1 (ap (words_at j) (sym here) ∙ q) in
            absurd (omega (arith, less, words))
        | inr too ↦ only_below j h.0 ks k l w h.3 on too p q
      ]
    ]

pub only_one : (j : Journal) (ks : List ℕ) (k l w : ℕ) → WordsFall j ks → IsOn k ks → IsOn l ks → words_at j k ≡ Some w → words_at j l ≡ Some w → k ≡ l
only_one j [] k l w h a b p q = only_below j 0 [] k l w tt a b p q
only_one j (x ∷ ks) k l w h a b p q = only_below j (h.0 + 1) (x ∷ ks) k l w (h.0, h.1, omega arith, h.2) a b p q
