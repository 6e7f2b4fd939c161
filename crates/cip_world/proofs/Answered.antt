-- A reply that comes answers the one request of its number.
use Rattle.std.proofs.Common.{◌≡◌, ℕ, ◌≤◌, true, ◌&&◌, List, Some, refl, sym, ap, subst, ◌∙◌, arith, eqb}
use Rattle.std.specs.Str.{bytes_eq}
use Rattle.std.proofs.lemmas.Bool.{and_from, eq-eqb}
use Rattle.std.proofs.lemmas.Slice.Eq.{bytes_eq-Decides}
use Rattle.cip_pending.specs.declared.entry.UpSide.TheVariants.{Link}
use Rattle.cip_config.specs.declared.config.ModuleSettings.{ModuleSettings}
use Rattle.cip_event.specs.declared.event.Body.TheVariants as bodies
use Rattle.cip_event.specs.declared.event.Dropped.{Dropped}
use Rattle.cip_event.specs.declared.event.Event.{Event}
use Rattle.cip_event.specs.declared.event.Event.TheVariants as events
use Rattle.cip_event.specs.declared.event.Output.{Output}
use Rattle.cip_event.specs.declared.event.Output.TheVariants as outputs
use Rattle.cip_event.specs.declared.event.Body.{Body}
use Rattle.cip_routing.specs.Table.{table_step}
use Rattle.cip_laws.proofs.AskedBy.{Waits, taken_waits}
use Rattle.cip_world.specs.declared.journal.Input.{Input}
use Rattle.cip_event.specs.declared.frame.FrameName.{FrameName}
use Rattle.cip_laws.specs.Histories.{next_state}
use Rattle.cip_chassis.specs.Nodes.{Way, across as goes}
use Rattle.cip_world.specs.Journals.{Journal, Flight, part}
use Rattle.cip_world.specs.Answers.{Answered}
use Rattle.cip_world.specs.Runs.{IsModule, IsArrival, state_in, IsStepAt, IsRun}
use Rattle.cip_world.proofs.Chassis.{Chassis}
use Rattle.cip_laws.specs.Weights.{mark, is_reply, weight}
use Rattle.cip_laws.specs.Turns.{Has, Came, Gave}
use Rattle.cip_world.proofs.Arrivals.{way_in, Brought, arrives, came_brought, counted_came, one_request, name_eq}
use Rattle.cip_world.proofs.Frames.{out_of, frame_gave, sender, one_frame}
use Rattle.cip_world.proofs.Parts.{step_here}
use Rattle.cip_world.proofs.Replies.{replied_once, replied_after}
use Rattle.cip_laws.proofs.Turns.{turned}
use Rattle.cip_laws.proofs.Weighing.{weight_gave}

-- what a module takes waited: it does not drop the reply
pub taken_waited : (t : Chassis) (j : Journal) (m port n : ℕ) (from bytes : List ℕ) (input : Input) (outs : List Output) (s : IsStepAt t.plan j m input outs)
    → s.event ≡ events.Frame port from (bodies.Reply n bytes) → ((reason : Dropped) → Has outs (outputs.Dropped reason) → ⊥)
    → Waits (state_in s.config m j) n port from
taken_waited t j m port n from bytes input outs s is kept =
    let event : Event = events.Frame port from (bodies.Reply n bytes) in
    let step : table_step s.config (state_in s.config m j) event ≡ Some (record { state = next_state s.config (state_in s.config m j) event; outputs = outs }) =
    subst (λ (e : Event). table_step s.config (state_in s.config m j) e
    ≡ Some (record { state = next_state s.config (state_in s.config m j) e; outputs = outs })) is
    (step_here t.plan j m m s.config input outs refl s.is_module s) in
    taken_waits s.config (state_in s.config m j) (next_state s.config (state_in s.config m j) event) port n from bytes outs
    (turned s.config (state_in s.config m j) event (next_state s.config (state_in s.config m j) event) outs step)
    kept

-- ---- the theorem

frame_body : (port : ℕ) (from : List ℕ) (b c : Body) → events.Frame port from b ≡ events.Frame port from c → b ≡ c
frame_body port from b c e = cc

reply_weighs : (n : ℕ) (x : Flight) (there : Way) (bytes : List ℕ) → x.way ≡ there → x.body ≡ bodies.Reply n bytes
    → 1 ≤ is_reply (Link there.port there.address n) (out_of x)
reply_weighs n x there bytes way body =
    let whole : out_of x ≡ outputs.Send there.port there.address (bodies.Reply n bytes) = λ i. outputs.Send ((way i).port) ((way i).address) (body i) in
    let one = ap (is_reply (Link there.port there.address n)) whole in
    let self : (eqb there.port there.port && bytes_eq there.address there.address) && eqb n n ≡ true =
    and_from (eqb there.port there.port && bytes_eq there.address there.address) (eqb n n)
    (and_from (eqb there.port there.port) (bytes_eq there.address there.address) (eq-eqb there.port there.port refl)
    ((bytes_eq-Decides there.address there.address).1 refl)) (eq-eqb n n refl) in
    let two = ap mark self in
    omega (arith, one, two)

module _ (t : Chassis) (j : Journal) (f : FrameName) (m port n : ℕ) (from bytes : List ℕ) (event : Event) (run : IsRun t.plan j)
    (event_is : event ≡ events.Frame port from (bodies.Reply n bytes)) (a : IsArrival t.plan j f m port from event) where
  abbrev there : Way
  there = a.waits.flight.way

  what : (goes t.plan a.waits.flight.way ≡ Some (way_in m port from)) × (a.waits.flight.body ≡ bodies.Reply n bytes)
  what = (arrives t j f m port from event a, frame_body port from a.waits.flight.body (bodies.Reply n bytes) (sym a.event_is ∙ event_is))

  leads : goes t.plan (way_in m port from) ≡ Some there
  leads = t.back a.waits.flight.way (way_in m port from) what.0

  -- the sender of the reply, which gave it once, after the request came
  replier : (config : ModuleSettings) × IsModule t.plan there.at config
  replier = sender t.plan j f a.waits.flight run a.waits.sent

  replied : 1 ≤ weight (is_reply (Link there.port there.address n)) (part there.at j)
  replied =
      let one = weight_gave (is_reply (Link there.port there.address n)) (part there.at j) (out_of a.waits.flight)
      (frame_gave t.plan j f a.waits.flight run a.waits.sent) in
      let heavy = reply_weighs n a.waits.flight there bytes refl what.1 in
      omega (arith, one, heavy)

  asking : (b : List ℕ) × Came (λ ev. ev ≡ events.Frame there.port there.address (bodies.Request n b)) (part there.at j)
  asking = counted_came there.port n there.address (part there.at j) (replied_after t j there.at replier.0 run replier.1 there.port n there.address replied)

  brought : Brought t j there.at there.port there.address (bodies.Request n asking.0)
  brought = came_brought t j there.at there.port there.address (bodies.Request n asking.0) run asking.1

  -- the request that came there left here, by this port to this address
  from_here : brought.flight.way ≡ way_in m port from
  from_here =
      let back : goes t.plan there ≡ Some brought.flight.way = t.back brought.flight.way there brought.leads in
      let both : Some brought.flight.way ≡ Some (way_in m port from) = sym back ∙ what.0 in
      cc

  sent_out : out_of brought.flight ≡ outputs.Send port from (bodies.Request n asking.0)
  sent_out = λ i. outputs.Send ((from_here i).port) ((from_here i).address) (brought.body_is i)

  sent_here : Gave (part m j) (outputs.Send port from (bodies.Request n asking.0))
  sent_here =
      subst (λ (o : Output). Gave (part m j) o) sent_out
      (subst (λ (k : ℕ). Gave (part k j) (out_of brought.flight)) (ap (λ (w : Way). w.at) from_here)
      (frame_gave t.plan j brought.name brought.flight run brought.sent))

  pub answers : Answered t.plan j f m port n from
  answers = record {
    there = there;
    across = leads;
    asked = asking.0;
    sent = sent_here;
    only = λ g h x y b c at too p q r s. one_request t j g h x y n b c run (at ∙ sym too) r s p q;
    came = asking.1;
    once = λ g x b way body r.
        let names = one_frame (is_reply (Link there.port there.address n)) there.at t.plan j g f x a.waits.flight run
        (replied_once t j there.at replier.0 run replier.1 there.port n there.address) (ap (λ (w : Way). w.at) way) refl
        (reply_weighs n x there b way body) (reply_weighs n a.waits.flight there bytes refl what.1) r a.waits.sent in
        name_eq g f names.0 names.1;
  }
