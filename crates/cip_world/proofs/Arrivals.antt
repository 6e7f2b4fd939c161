-- What came to a module was sent to it, and a request comes once.
use Rattle.std.proofs.Common.{◌≡◌, ℕ, zero, suc, ◌+◌, ◌≤◌, Bool, true, false, ◌||◌, ◌&&◌, List, [], ◌∷◌, Option, Some, None, refl, sym, ap, subst, ◌∙◌, inl}
use Rattle.std.proofs.Common.{inr, arith, eqb}
use Rattle.std.specs.Str.{bytes_eq}
use Rattle.std.proofs.lemmas.Bool.{and_parts, eqb-true, eq-eqb, or_right, and_from}
use Rattle.std.proofs.lemmas.Slice.Eq.{bytes_eq-Decides}
use Rattle.cip_pending.specs.declared.entry.UpSide.{UpSide}
use Rattle.cip_pending.specs.declared.entry.UpSide.TheVariants.{Link}
use Rattle.cip_event.specs.declared.event.Body.{Body}
use Rattle.cip_event.specs.declared.event.Body.TheVariants as bodies
use Rattle.cip_event.specs.declared.event.Command.TheVariants as commands
use Rattle.cip_event.specs.declared.event.Event.{Event}
use Rattle.cip_event.specs.declared.event.Event.TheVariants as events
use Rattle.cip_event.specs.declared.event.Output.{Output}
use Rattle.cip_laws.specs.Tells.{asker}
use Rattle.cip_base.specs.declared.numbers.ModuleId.{ModuleId}
use Rattle.cip_world.specs.declared.journal.Input.{Input}
use Rattle.cip_world.specs.declared.journal.Input.TheVariants as inputs
use Rattle.cip_world.specs.declared.journal.Entry.{Entry}
use Rattle.cip_world.specs.declared.journal.Entry.TheVariants.{Step, Lost}
use Rattle.cip_event.specs.declared.frame.FrameName.{FrameName}
use Rattle.cip_laws.specs.Histories.{Turn}
use Rattle.cip_chassis.specs.Nodes.{Way, across as goes}
use Rattle.cip_world.specs.Journals.{Journal, Flight, frame_at, same_name, names, is_named, part}
use Rattle.cip_world.specs.Runs.{IsArrival, IsGiven, IsStepAt, IsRun}
use Rattle.cip_world.proofs.Chassis.{Chassis}
use Rattle.cip_laws.specs.Weights.{mark, same_up, is_to, is_asked_by, is_request, came}
use Rattle.cip_laws.specs.Turns.{Came}
use Rattle.cip_world.proofs.Parts.{part_step, some_here, run_history}
use Rattle.cip_world.proofs.Frames.{out_of, frame_older, sender, one_frame}
use Rattle.cip_laws.proofs.Numbers.{sent_once}

-- the way by which frames come to a module by a port from an address
abbrev pub way_in : ℕ → ℕ → List ℕ → Way
way_in m port from = record { at = m; port = port; address = from }

-- the frame that brought what came: it is named, and its way leads here
pub record Brought (t : Chassis) (j : Journal) (m port : ℕ) (from : List ℕ) (body : Body) : Type 0 where
  pub name : FrameName
  pub flight : Flight
  pub sent : frame_at j name ≡ Some flight
  pub leads : goes t.plan flight.way ≡ Some (way_in m port from)
  pub body_is : flight.body ≡ body
  pub named : is_named j name ≡ true

brought_older : (t : Chassis) (e : Entry) (j : Journal) (m port : ℕ) (from : List ℕ) (body : Body) → Brought t j m port from body
    → Brought t (e ∷ j) m port from body
brought_older t e j m port from body h = record {
  name = h.name;
  flight = h.flight;
  sent = frame_older e j h.name h.flight h.sent;
  leads = h.leads;
  body_is = h.body_is;
  named = or_right (names h.name e) (is_named j h.name) h.named;
}

frame_parts : (port : ℕ) (from : List ℕ) (body : Body) (p : ℕ) (f : List ℕ) (b : Body) → events.Frame port from body ≡ events.Frame p f b
    → (port ≡ p) × (from ≡ f) × (body ≡ b)
frame_parts port from body p f b e = (cc, cc, cc)

pub same_self : (f : FrameName) → same_name f f ≡ true
same_self f = and_from (eqb f.entry f.entry) (eqb f.output f.output) (eq-eqb f.entry f.entry refl) (eq-eqb f.output f.output refl)

-- what an arrival brings
pub arrives : (t : Chassis) (j : Journal) (f : FrameName) (m port : ℕ) (from : List ℕ) (event : Event)
    → (a : IsArrival t.plan j f m port from event) → goes t.plan a.waits.flight.way ≡ Some (way_in m port from)
arrives t j f m port from event a = a.waits.leads ∙ ap (λ (w : Way). Some w) a.here

-- an arrival at some entry is of a frame event
pub record FrameGiven (t : Chassis) (j : Journal) (m port : ℕ) (from : List ℕ) (body : Body) (input : Input) : Type 0 where
  pub name : FrameName
  pub input_is : input ≡ inputs.Frame port from name
  pub flight : Flight
  pub sent : frame_at j name ≡ Some flight
  pub leads : goes t.plan flight.way ≡ Some (way_in m port from)
  pub body_is : flight.body ≡ body
  pub fresh : is_named j name ≡ false

pub frame_given : (t : Chassis) (j : Journal) (m : ℕ) (input : Input) (event : Event) (port : ℕ) (from : List ℕ) (body : Body)
    → IsGiven t.plan j m input event → event ≡ events.Frame port from body
    → FrameGiven t j m port from body input
frame_given t j m (inputs.Command command) event port from body h e = let no : events.Command command ≡ events.Frame port from body = sym h ∙ e in absurd (cc)
frame_given t j m (inputs.Tick ms) event port from body h e = let no : events.Tick ms ≡ events.Frame port from body = sym h ∙ e in absurd (cc)
frame_given t j m (inputs.Frame p f name) event port from body a e =
    let parts = frame_parts p f a.waits.flight.body port from body (sym a.event_is ∙ e) in
    record {
      name = name;
      input_is = λ i. inputs.Frame (parts.0 i) (parts.1 i) name;
      flight = a.waits.flight;
      sent = a.waits.sent;
      leads = arrives t j name m p f event a ∙ (λ i. Some (way_in m (parts.0 i) (parts.1 i)));
      body_is = parts.2;
      fresh = a.waits.fresh;
    }

brought_now : (t : Chassis) (j : Journal) (m : ℕ) (n : ModuleId) (port : ℕ) (from : List ℕ) (body : Body) (input : Input) (outs : List Output)
    → n.0 ≡ m → (s : IsStepAt t.plan j n.0 input outs) → s.event ≡ events.Frame port from body → Brought t (Step n input outs ∷ j) m port from body
brought_now t j m n port from body input outs same s e =
    let a : FrameGiven t j m port from body input =
    subst (λ (k : ℕ). FrameGiven t j k port from body input) same (frame_given t j n.0 input s.event port from body s.given e) in
    let named : names a.name (Step n input outs) ≡ true = ap (λ (i : Input). names a.name (Step n i outs)) a.input_is ∙ same_self a.name in
    record {
      name = a.name;
      flight = a.flight;
      sent = frame_older (Step n input outs) j a.name a.flight a.sent;
      leads = a.leads;
      body_is = a.body_is;
      named = ap (λ b. b || is_named j a.name) named;
    }

pub came_brought : (t : Chassis) (j : Journal) (m port : ℕ) (from : List ℕ) (body : Body) → IsRun t.plan j
    → Came (λ event. event ≡ events.Frame port from body) (part m j) → Brought t j m port from body
came_brought t [] m port from body run h = absurd h
came_brought t (Step n input outs ∷ j) m port from body run h =
    elim (some_here (λ turn. turn.event ≡ events.Frame port from body) t.plan m n input outs j run.1 h) [
      | inl now ↦ brought_now t j m n port from body input outs now.0 run.1 now.1
      | inr old ↦ brought_older t (Step n input outs) j m port from body (came_brought t j m port from body run.0 old)
    ]
came_brought t (Lost frame ∷ j) m port from body run h = brought_older t (Lost frame) j m port from body (came_brought t j m port from body run.0 h)

-- ---- a request comes once

pub name_eq : (f g : FrameName) → f.entry ≡ g.entry → f.output ≡ g.output → f ≡ g
name_eq f g e h = λ i. record { entry = e i; output = h i }

same_way : (t : Chassis) (a b there : Way) → goes t.plan a ≡ Some there → goes t.plan b ≡ Some there → a ≡ b
same_way t a b there e f = let both : Some a ≡ Some b = sym (t.back a there e) ∙ t.back b there f in cc

pub request_weighs : (n : ℕ) (x : Flight) (bytes : List ℕ) → x.body ≡ bodies.Request n bytes → 1 ≤ is_request n (out_of x)
request_weighs n x bytes e =
    let one = ap (λ (b : Body). is_request n (out_of (record { way = x.way; body = b }))) e in
    let two = ap mark (eq-eqb n n refl) in
    omega (arith, one, two)

-- a request under one number of one sender has one name
pub one_request : (t : Chassis) (j : Journal) (f g : FrameName) (x y : Flight) (n : ℕ) (b c : List ℕ) → IsRun t.plan j
    → x.way.at ≡ y.way.at → frame_at j f ≡ Some x → frame_at j g ≡ Some y
    → x.body ≡ bodies.Request n b → y.body ≡ bodies.Request n c → f ≡ g
one_request t j f g x y n b c run same h k p q =
    let from = sender t.plan j f x run h in
    let once = sent_once from.0 n (part x.way.at j) (run_history t.plan j x.way.at from.0 run from.1) in
    let names = one_frame (is_request n) x.way.at t.plan j f g x y run once refl (sym same) (request_weighs n x b p) (request_weighs n y c q) h k in
    name_eq f g names.0 names.1

-- a request that came is not given again
pub comes_once : (t : Chassis) (j : Journal) (m port n : ℕ) (from b c : List ℕ) (input : Input) → IsRun t.plan j
    → Came (λ event. event ≡ events.Frame port from (bodies.Request n b)) (part m j) → FrameGiven t j m port from (bodies.Request n c) input → ⊥
comes_once t j m port n from b c input run old a =
    let was = came_brought t j m port from (bodies.Request n b) run old in
    let way : was.flight.way ≡ a.flight.way = same_way t was.flight.way a.flight.way (way_in m port from) was.leads a.leads in
    let one = one_request t j was.name a.name was.flight a.flight n b c run (ap (λ (w : Way). w.at) way) was.sent a.sent was.body_is a.body_is in
    let named : is_named j a.name ≡ true = ap (is_named j) (sym one) ∙ was.named in
    let fresh : is_named j a.name ≡ false = a.fresh in
    cc

-- ---- the same, counted

mark_at_most : (b : Bool) → mark b ≤ 1
mark_at_most true = omega arith
mark_at_most false = omega arith

to_at_most : (up : UpSide) (v : Option UpSide) → is_to up v ≤ 1
to_at_most up None = omega arith
to_at_most up (Some v) = mark_at_most (same_up v up)

marked : (b : Bool) → 1 ≤ mark b → b ≡ true
marked true h = refl
marked false h = absurd (omega (arith, h))

-- the event is that request
pub record IsThat (event : Event) (port n : ℕ) (from : List ℕ) : Type 0 where
  pub bytes : List ℕ
  pub event_is : event ≡ events.Frame port from (bodies.Request n bytes)

pub asked_that : (event : Event) (port n : ℕ) (from : List ℕ) → 1 ≤ is_asked_by (Link port from n) event → IsThat event port n from
asked_that (events.Frame p a (bodies.Request k b)) port n from h =
    let both = and_parts (eqb p port && bytes_eq a from) (eqb k n) (marked ((eqb p port && bytes_eq a from) && eqb k n) h) in
    let way = and_parts (eqb p port) (bytes_eq a from) both.0 in
    let ports = eqb-true p port way.0 in
    let addresses : a ≡ from = (bytes_eq-Decides a from).0 way.1 in
    let numbers = eqb-true k n both.1 in
    record { bytes = b; event_is = λ i. events.Frame (ports i) (addresses i) (bodies.Request (numbers i) b) }
asked_that (events.Frame p a (bodies.Reply k b)) port n from h = absurd (omega (arith, h))
asked_that (events.Frame p a (bodies.Data k b)) port n from h = absurd (omega (arith, h))
asked_that (events.Command (commands.Produce instance)) port n from h = absurd (omega (arith, h))
asked_that (events.Command c) port n from h = absurd (omega (arith, h))
asked_that (events.Tick ms) port n from h = absurd (omega (arith, h))

abbrev CameSo : ℕ → ℕ → List ℕ → List Turn → Type 0
CameSo port n from turns = (b : List ℕ) × Came (λ event. event ≡ events.Frame port from (bodies.Request n b)) turns

counted_by : (port n : ℕ) (from : List ℕ) (turn : Turn) (turns : List Turn) (k : ℕ) → is_asked_by (Link port from n) turn.event ≡ k
    → (k ≡ 0 → CameSo port n from turns) → CameSo port n from (turn ∷ turns)
counted_by port n from turn turns zero e old = let before = old refl in (before.0, inr before.1)
counted_by port n from turn turns (suc k) e old = let is = asked_that turn.event port n from (omega (arith, e)) in (is.bytes, inl is.event_is)

-- what was counted came
pub counted_came : (port n : ℕ) (from : List ℕ) (turns : List Turn) → 1 ≤ came (is_asked_by (Link port from n)) turns → CameSo port n from turns
counted_came port n from [] h = absurd (omega (arith, h))
counted_came port n from (turn ∷ turns) h =
    counted_by port n from turn turns (is_asked_by (Link port from n) turn.event) refl (λ none. counted_came port n from turns (omega (arith, h, none)))

by_count : (k : ℕ) (c : ℕ) → c ≡ k → (1 ≤ k → ⊥) → k ≡ 0
by_count zero c e none = refl
by_count (suc k) c e none = absurd (none (omega arith))

at_most : (a b : ℕ) → a ≤ 1 → b ≤ 1 → (1 ≤ a → b ≡ 0) → a + b ≤ 1
at_most zero b p q h = omega (arith, q)
at_most (suc a) b p q h = let none = h (omega arith) in omega (arith, p, none)

asked_first : (t : Chassis) (j : Journal) (m k port n : ℕ) (from : List ℕ) (input : Input) (event : Event) → IsRun t.plan j
    → k ≡ m → IsGiven t.plan j k input event
    → 1 ≤ is_asked_by (Link port from n) event → came (is_asked_by (Link port from n)) (part m j) ≡ 0
asked_first t j m k port n from input event run same is asks =
    let that = asked_that event port n from asks in
    let a : FrameGiven t j m port from (bodies.Request n that.bytes) input =
    subst (λ (i : ℕ). FrameGiven t j i port from (bodies.Request n that.bytes) input) same
    (frame_given t j k input event port from (bodies.Request n that.bytes) is that.event_is) in
    by_count (came (is_asked_by (Link port from n)) (part m j)) (came (is_asked_by (Link port from n)) (part m j)) refl (λ some.
    let old = counted_came port n from (part m j) some in
    comes_once t j m port n from old.0 that.bytes input run old.1 a)

-- a request is asked once
pub asked_once : (t : Chassis) (j : Journal) (m port n : ℕ) (from : List ℕ) → IsRun t.plan j → came (is_asked_by (Link port from n)) (part m j) ≤ 1
asked_once t [] m port n from run = omega arith
asked_once t (Step k input outs ∷ j) m port n from run =
    let old = asked_once t j m port n from run.0 in
    part_step (λ turns. came (is_asked_by (Link port from n)) turns ≤ 1) t.plan m k input outs j run.1
    (λ same. at_most (is_asked_by (Link port from n) run.1.event) (came (is_asked_by (Link port from n)) (part m j))
    (to_at_most (Link port from n) (asker run.1.event)) old
    (λ asks. asked_first t j m k.0 port n from input run.1.event run.0 same run.1.given asks))
    old
asked_once t (Lost frame ∷ j) m port n from run = asked_once t j m port n from run.0
