-- Each datum that arrives at an op was produced where the op's open leads, and arrives once.
use Rattle.std.proofs.Common.{◌≡◌, ℕ, suc, ◌≤◌, true, false, ◌&&◌, List, ◌∷◌, Some, refl, sym, ap, subst, ◌∙◌, inr, arith, eqb, length}
use Rattle.std.specs.FinMap as map
use Rattle.std.specs.Str.{bytes_eq}
use Rattle.std.proofs.lemmas.Bool.{and_parts, and_from, eqb-true, eq-eqb}
use Rattle.std.proofs.lemmas.Slice.Eq.{bytes_eq-Decides}
use Rattle.cip_base.specs.declared.numbers.ModuleId.{ModuleId}
use Rattle.cip_base.specs.declared.triad.Triad.{Triad}
use Rattle.cip_open.specs.Open.{Open as OpenRequest}
use Rattle.cip_hops.specs.declared.opening.HopDown.{HopDown}
use Rattle.cip_hops.specs.declared.opening.HopDown.TheVariants.{Link as DownLink, End}
use Rattle.cip_hops.specs.declared.opening.HopUp.{HopUp}
use Rattle.cip_hops.specs.declared.opening.HopUp.TheVariants.{Link as UpLink, Local as UpLocal}
use Rattle.cip_hops.specs.declared.opening.Opening.{Opening}
use Rattle.cip_hops.specs.declared.hop.Hop.{Hop}
use Rattle.cip_hops.specs.declared.hop.Held.{Held}
use Rattle.cip_hops.specs.declared.hop.Held.TheVariants.{Open}
use Rattle.cip_hops.specs.declared.hop.Side.{Side}
use Rattle.cip_hops.specs.declared.hop.Side.TheVariants.{Up}
use Rattle.cip_hops.specs.Sides.{up_is_link}
use Rattle.cip_hops.specs.Hops.{opening_of}
use Rattle.cip_config.specs.declared.config.ModuleSettings.{ModuleSettings}
use Rattle.cip_event.specs.declared.event.Body.TheVariants as bodies
use Rattle.cip_event.specs.declared.event.Command.TheVariants as commands
use Rattle.cip_event.specs.declared.event.Event.{Event}
use Rattle.cip_event.specs.declared.event.Event.TheVariants as events
use Rattle.cip_event.specs.declared.event.Output.{Output}
use Rattle.cip_event.specs.declared.event.Output.TheVariants as outputs
use Rattle.cip_laws.specs.Births.{Past, IsBirth}
use Rattle.cip_laws.specs.Histories.{IsHistory}
use Rattle.cip_laws.specs.Outputs.{DatumOf, GoesUp, Arrives, GoesDown, IsConsumed}
use Rattle.cip_routing.specs.Produced.{reads_from}
use Rattle.cip_routing.specs.State.{State}
use Rattle.cip_routing.specs.Table.{table_step}
use Rattle.cip_laws.specs.Weights.{mark, weight_in}
use Rattle.cip_laws.proofs.Births.{born_once}
use Rattle.cip_laws.proofs.Triads.{HasOwnTriads, own_triads}
use Rattle.cip_laws.proofs.Turns.{turned}
use Rattle.cip_laws.proofs.Weighing.{one_place}
use Rattle.cip_chassis.specs.Nodes.{Way}
use Rattle.cip_world.specs.declared.journal.Entry.TheVariants.{Step}
use Rattle.cip_event.specs.declared.frame.FrameName.{FrameName}
use Rattle.cip_world.specs.declared.journal.Input.TheVariants as inputs
use Rattle.cip_world.specs.Entering.{HasOutput, before_entry, ArrivedOf}
use Rattle.cip_world.specs.Journals.{Journal, entry_at, part}
use Rattle.cip_world.specs.Runs.{IsModule, IsRun, state_in}
use Rattle.cip_world.proofs.Arrivals.{way_in, name_eq}
use Rattle.cip_world.proofs.Chassis.{Chassis}
use Rattle.cip_world.proofs.Commands.{OpenOf, opened_by_op}
use Rattle.cip_world.proofs.Consumed.{StepOf, step_of, opened_later, leads_to, produces, gives_end}
use Rattle.cip_world.proofs.Frames.{out_of}
use Rattle.cip_world.proofs.Given.{Given, Source, CameBy, EnteredBy, MadeBy, given}
use Rattle.cip_world.proofs.Leading.{EndsAt, ends_at}
use Rattle.cip_world.proofs.Lines.{frame_place, Line, ends_once}
use Rattle.cip_world.proofs.Moments.{number_at, before_that, itself, run_older}
use Rattle.cip_world.proofs.OpenedOnce.{opened_once}
use Rattle.cip_world.proofs.Parts.{turn_of, same_module, run_history}
use Rattle.cip_world.proofs.ProducedOnce.{is_there, goes_there, produced_once}
use Rattle.cip_world.proofs.Rooted.{before_at}
use Rattle.cip_world.proofs.Sent.{Sent, sent}
use Rattle.cip_world.proofs.Steps.{turn_history}
use Rattle.cip_world.proofs.Uppers.{HasUpper, upper}

-- ---- an up side has one connection

there_is : (port id : ℕ) (to : List ℕ) (up : HopUp) → is_there port id to up ≡ true → up ≡ UpLink port to id
there_is port id to (UpLink p a c) t =
    let both = and_parts (eqb p port && bytes_eq a to) (eqb c id) t in
    let way = and_parts (eqb p port) (bytes_eq a to) both.0 in
    let ports = eqb-true p port way.0 in
    let addresses : a ≡ to = (bytes_eq-Decides a to).0 way.1 in
    let ids = eqb-true c id both.1 in
    λ i. UpLink (ports i) (addresses i) (ids i)
there_is port id to (UpLocal op) t = absurd (cc)

is_itself : (port id : ℕ) (to : List ℕ) → (eqb port port && bytes_eq to to) && eqb id id ≡ true
is_itself port id to =
    and_from (eqb port port && bytes_eq to to) (eqb id id)
    (and_from (eqb port port) (bytes_eq to to) (eq-eqb port port refl) ((bytes_eq-Decides to to).1 refl)) (eq-eqb id id refl)

some_way : (a b : Way) → Some a ≡ Some b → a ≡ b
some_way a b e = cc

module _ (t : Chassis) (j : Journal) (m : ℕ) (config : ModuleSettings) (run : IsRun t.plan j) (is : IsModule t.plan m config) (port id : ℕ) (to : List ℕ) where
  abbrev state : State
  state = state_in config m j

  own : HasOwnTriads state
  own = own_triads config (part m j) (run_history t.plan j m config run is)

  same_uppers : (o p : Opening) → HasUpper t j (way_in m port to) o id → HasUpper t j (way_in m port to) p id → o.triad ≡ p.triad
  same_uppers o p a b =
      let ways : b.above ≡ a.above = some_way b.above a.above (sym b.across ∙ a.across) in
      let place = ap (λ (w : Way). w.at) ways in
      let configs = same_module t.plan a.above.at b.above.at b.config a.config place b.is_module a.is_module in
      let birth : Past (IsBirth a.config b.opening b.ids) (part a.above.at j) =
      subst (λ (c : ModuleSettings). Past (IsBirth c b.opening b.ids) (part a.above.at j)) configs
      (subst (λ (k : ℕ). Past (IsBirth b.config b.opening b.ids) (part k j)) place b.birth) in
      let same = born_once a.config a.opening b.opening a.ids b.ids (part a.above.at j) id
      (run_history t.plan j a.above.at a.config run a.is_module) a.birth birth (inr a.own_is) (inr b.own_is) in
      sym a.triad_is ∙ ap (λ (x : Opening). x.triad) same.0 ∙ b.triad_is

  alone : (q r : Triad) (x y : Held) → map.get state.hops.held q ≡ Some x → map.get state.hops.held r ≡ Some y
      → is_there port id to (opening_of x).up ≡ true → is_there port id to (opening_of y).up ≡ true → q ≡ r
  alone q r x y at too a b =
      let high = upper t j j m config run is (itself j) q x port id to at (there_is port id to (opening_of x).up a) in
      let other = upper t j j m config run is (itself j) r y port id to too (there_is port id to (opening_of y).up b) in
      sym (own q x at) ∙ same_uppers (opening_of x) (opening_of y) high other ∙ own r y too

  -- a Produce sends one datum there at most
  pub sent_once_there : (event : Event) (instance : ℕ) (new : State) (outs : List Output) → event ≡ events.Command (commands.Produce instance)
      → table_step config state event ≡ Some (record { state = new; outputs = outs }) → weight_in (goes_there port id to) outs ≤ 1
  sent_once_there event instance new outs event_is step =
      let turn = turned config state (events.Command (commands.Produce instance)) new outs (ap (table_step config state) (sym event_is) ∙ step) in
      let most = produced_once port id to config state instance turn.effects own alone turn.decided in
      let same = ap (weight_in (goes_there port id to)) turn.out in
      omega (arith, most, same)

-- ---- what arrives

arrived_parts : (o p : ℕ) (b d : List ℕ) → outputs.Arrived o b ≡ outputs.Arrived p d → (o ≡ p) × (b ≡ d)
arrived_parts o p b d e = (cc, cc)

no_local : (o : Opening) (op c i p : ℕ) → o.up ≡ UpLocal op → EndsAt o c i p → ⊥
no_local o op c i p local e = let no : false ≡ true = sym (ap up_is_link local) ∙ e.came in cc

-- the end from which a connection takes its data
record ReadsEnd (instance : ℕ) (down : HopDown) : Type 0 where
  config : ℕ
  consume : ℕ
  is : down ≡ End config consume instance

reads_end : (instance : ℕ) (down : HopDown) → reads_from instance down ≡ true → ReadsEnd instance down
reads_end instance (DownLink port address) t = absurd (cc)
reads_end instance (End config consume produce) t = record {
  config = config;
  consume = consume;
  is = ap (λ (p : ℕ). End config consume p)
      (eqb-true produce instance t);
}

-- the connection at which the datum of entry k arrived, and its way from the Produce
pub record Reached (t : Chassis) (j : Journal) (k m op : ℕ) (bytes : List ℕ) : Type 0 where
  pub o : Opening
  pub sent : Sent t j k m o bytes
  pub open_ : OpenOf t.plan j m op o

module _ (t : Chassis) (j : Journal) (run : IsRun t.plan j) (k m op : ℕ) (bytes : List ℕ) (s : StepOf t j k m (outputs.Arrived op bytes)) where
  abbrev before_state : State
  before_state = state_in s.run.1.config s.at.0 s.before

  history : IsHistory s.run.1.config (part s.at.0 s.before)
  history = run_history t.plan s.before s.at.0 s.run.1.config s.run.0 s.run.1.is_module

  module _ (hop : Hop) (stands : map.get before_state.hops.held hop.opening.triad ≡ Some (Open hop)) (local : hop.opening.up ≡ UpLocal op) where
    opened : OpenOf t.plan s.before s.at.0 op hop.opening
    opened = opened_by_op t.plan s.before s.at.0 s.run.1.config s.run.0 s.run.1.is_module hop.opening.triad (Open hop) op stands local

    reached : Sent t j (length s.before) s.at.0 hop.opening bytes → Reached t j k m op bytes
    reached x = record {
      o = hop.opening;
      sent = subst (λ (n : ℕ). Sent t j n m hop.opening bytes) s.number (subst (λ (e : ℕ). Sent t j (length s.before) e hop.opening bytes) s.at_is x);
      open_ = subst (λ (e : ℕ). OpenOf t.plan j e op hop.opening) s.at_is (record {
        request = opened.request;
        opened = opened_later t.plan s.before j s.at.0 op opened.request (before_that (Step s.at s.input s.outs) s.before j s.older) opened.opened;
        path_is = opened.path_is;
        triad_is = opened.triad_is;
      });
    }

    by_source : (b : List ℕ) → b ≡ bytes → Source before_state s.run.1.event Up hop b → Reached t j k m op bytes
    by_source b bytes_are (EnteredBy of side event_is found sized) = absurd (cc)
    by_source b bytes_are (MadeBy held side made_is made) =
        let end = reads_end made.instance hop.opening.down made.reads in
        absurd (no_local hop.opening op end.config end.consume made.instance local
        (ends_at s.run.1.config (part s.at.0 s.before) history hop.opening.triad (Open hop) end.config end.consume made.instance stands end.is))
    by_source b bytes_are (CameBy came) =
        reached (subst (λ (d : List ℕ). Sent t j (length s.before) s.at.0 hop.opening d) bytes_are
        (sent (suc (length s.before)) t j s.at s.input s.outs s.before s.older s.run (omega arith) hop b stands came))

  reached_from : (v : Given before_state s.run.1.event (outputs.Arrived op bytes)) → DatumOf v.hop v.side v.bytes (outputs.Arrived op bytes)
      → Reached t j k m op bytes
  reached_from v (GoesUp port to their_id side up x_is) = absurd (cc)
  reached_from v (GoesDown port to side down x_is) = absurd (cc)
  reached_from v (IsConsumed c consume p side down x_is) = absurd (cc)
  reached_from v (Arrives o side up x_is) =
      let parts = arrived_parts op o bytes v.bytes x_is in
      by_source v.hop v.stands (up ∙ ap (λ (n : ℕ). UpLocal n) (sym parts.0)) v.bytes (sym parts.1)
      (subst (λ (d : Side). Source before_state s.run.1.event d v.hop v.bytes) side v.source)

  pub reached_by : Reached t j k m op bytes
  reached_by =
      let v = given s.run.1.config (part s.at.0 s.before) (turn_of s.run.1.event s.outs) (turn_history t.plan s.before s.at s.input s.outs s.run)
      (outputs.Arrived op bytes) refl s.has in
      reached_from v v.of

-- ---- once

produce_parts : (a b : ModuleId) (i k : ℕ) (o p : List Output)
    → Some (Step a (inputs.Command (commands.Produce i)) o) ≡ Some (Step b (inputs.Command (commands.Produce k)) p)
    → (a ≡ b) × (i ≡ k) × (o ≡ p)
produce_parts a b i k o p e = (cc, cc, cc)

open_hop : (g h : Hop) → Some (Open g) ≡ Some (Open h) → g ≡ h
open_hop g h e = cc

up_parts : (p q : ℕ) (a b : List ℕ) (c d : ℕ) → UpLink p a c ≡ UpLink q b d → (p ≡ q) × (a ≡ b) × (c ≡ d)
up_parts p q a b c d e = (cc, cc, cc)

produces_at : (t : Chassis) (j : Journal) (k g : ℕ) (o : Opening) (bytes : List ℕ) → (x : Sent t j k g o bytes)
    → entry_at j (length x.before) ≡ Some (Step x.at (inputs.Command (commands.Produce x.instance)) x.outs)
produces_at t j k g o bytes x = number_at (Step x.at (inputs.Command (commands.Produce x.instance)) x.outs) x.before j x.older

-- the data that one Produce sent to one op have one first frame
module _ (t : Chassis) (j : Journal) (run : IsRun t.plan j) (m op i k : ℕ) (b d : List ℕ) (y : Reached t j i m op b) (x : Reached t j k m op d)
    (same_root : length y.sent.before ≡ length x.sent.before) where
  abbrev v : Sent t j i m y.o b
  v = y.sent

  abbrev u : Sent t j k m x.o d
  u = x.sent

  parts : (v.at ≡ u.at) × (v.instance ≡ u.instance) × (v.outs ≡ u.outs)
  parts = produce_parts v.at u.at v.instance u.instance v.outs u.outs
      (sym (produces_at t j i m y.o b v) ∙ ap (entry_at j) same_root ∙ produces_at t j k m x.o d u)

  befores : v.before ≡ u.before
  befores =
      sym (before_at (Step v.at (inputs.Command (commands.Produce v.instance)) v.outs) v.before j v.older) ∙ ap (before_entry j) same_root
      ∙ before_at (Step u.at (inputs.Command (commands.Produce u.instance)) u.outs) u.before j u.older

  triads : v.hop.opening.triad ≡ u.hop.opening.triad
  triads =
      let requests = (opened_once t.plan j m op y.open_.request x.open_.request run y.open_.opened x.open_.opened).1 in
      v.triad_is ∙ sym y.open_.triad_is ∙ ap (λ (r : OpenRequest). r.fields.triad) requests ∙ x.open_.triad_is ∙ sym u.triad_is

  configs : v.config ≡ u.config
  configs = same_module t.plan u.at.0 v.at.0 v.config u.config (ap (λ (n : ModuleId). n.0) parts.0) v.is_module u.is_module

  hops : v.hop ≡ u.hop
  hops = open_hop v.hop u.hop (sym v.stands ∙ (λ i. map.get (state_in (configs i) ((parts.0 i).0) (befores i)).hops.held (triads i)) ∙ u.stands)

  ups : (v.port ≡ u.port) × (v.to ≡ u.to) × (v.their_id ≡ u.their_id)
  ups = up_parts v.port u.port v.to u.to v.their_id u.their_id (sym v.up_is ∙ ap (λ (h : Hop). h.opening.up) hops ∙ u.up_is)

  most : weight_in (goes_there u.port u.their_id u.to) u.outs ≤ 1
  most =
      let then : IsRun t.plan (Step u.at (inputs.Command (commands.Produce u.instance)) u.outs ∷ u.before) =
      run_older t.plan (Step u.at (inputs.Command (commands.Produce u.instance)) u.outs ∷ u.before) j u.older run in
      sent_once_there t u.before u.at.0 then.1.config then.0 then.1.is_module u.port u.their_id u.to then.1.event u.instance then.1.new
      u.outs then.1.given then.1.step

  weighs : (f : Output) (p c : ℕ) (a e : List ℕ) → f ≡ outputs.Send p a (bodies.Data c e) → p ≡ u.port → a ≡ u.to → c ≡ u.their_id
      → 1 ≤ goes_there u.port u.their_id u.to f
  weighs f p c a e is same_port same_to same_id =
      let whole : f ≡ outputs.Send u.port u.to (bodies.Data u.their_id e) = is ∙ (λ i. outputs.Send (same_port i) (same_to i) (bodies.Data (same_id i) e)) in
      let one = ap (goes_there u.port u.their_id u.to) whole in
      let two = ap mark (is_itself u.port u.their_id u.to) in
      omega (arith, one, two)

  pub first_same : v.first ≡ u.first
  first_same =
      let entry = v.starts ∙ same_root in
      name_eq v.first u.first (entry ∙ sym u.starts)
      (one_place (goes_there u.port u.their_id u.to) u.outs v.first.output u.first.output (out_of v.datum.flight) (out_of u.datum.flight) most
      (weighs (out_of v.datum.flight) v.port v.their_id v.to b v.out_is ups.0 ups.1 ups.2)
      (weighs (out_of u.datum.flight) u.port u.their_id u.to d u.out_is refl refl refl)
      (frame_place j (length u.before) u.at (inputs.Command (commands.Produce u.instance)) u.outs (produces_at t j k m x.o d u) v.first v.datum entry)
      (frame_place j (length u.before) u.at (inputs.Command (commands.Produce u.instance)) u.outs (produces_at t j k m x.o d u) u.first u.datum u.starts))

  pub reached_once : HasOutput j i m (outputs.Arrived op b) → HasOutput j k m (outputs.Arrived op d) → i ≡ k
  reached_once g h =
      ends_once t.plan j u.first v.steps u.steps i k run (subst (λ (f : FrameName). Line j f v.steps i) first_same v.line) u.line
      (gives_end t.plan j v.first v.steps i m (outputs.Arrived op b) run v.line g refl (λ z e. cc))
      (gives_end t.plan j u.first u.steps k m (outputs.Arrived op d) run u.line h refl (λ z e. cc))

-- ---- the theorem

some_number : (a b : ℕ) → Some a ≡ Some b → a ≡ b
some_number a b e = cc

told : (t : Chassis) (j : Journal) (k m op : ℕ) (bytes : List ℕ) → IsRun t.plan j → HasOutput j k m (outputs.Arrived op bytes) → (x : Reached t j k m op bytes)
    → (c i p : ℕ) → (ends : EndsAt x.sent.hop.opening c i p) → p ≡ x.sent.instance → ArrivedOf t.plan j k m op bytes
told t j k m op bytes run h x c i p ends same = record {
  root = length x.sent.before;
  root_is = x.sent.root_is;
  request = x.open_.request;
  opened = x.open_.opened;
  e = x.sent.at.0;
  application = ends.points.application;
  leads = leads_to t.plan m x.sent.at.0 x.open_.request.path x.o.path x.sent.hop.opening c i p ends x.open_.path_is x.sent.walk_is;
  produced = record {
    at = x.sent.at;
    outs = x.sent.outs;
    is = produces_at t j k m x.o bytes x.sent
        ∙ ap (λ (n : ℕ). Some (Step x.sent.at (inputs.Command (commands.Produce n)) x.sent.outs)) (sym same ∙ sym (produces x.sent.hop.opening c i p ends));
    at_is = refl;
    config = x.sent.config;
    is_module = x.sent.is_module;
    hop = x.sent.hop;
    stands = (λ n. map.get (state_in x.sent.config x.sent.at.0 (before_at (Step x.sent.at (inputs.Command
        (commands.Produce x.sent.instance)) x.sent.outs) x.sent.before j x.sent.older n)).hops.held
        ((x.open_.triad_is ∙ sym x.sent.triad_is) n)) ∙ x.sent.stands;
    port = x.sent.port;
    to = x.sent.to;
    their_id = x.sent.their_id;
    up_is = x.sent.up_is;
    sent = x.sent.has;
  };
  only = λ n b g root.
      let y = reached_by t j run n m op b (step_of t j n m (outputs.Arrived op b) run g) in
      reached_once t j run m op n k b bytes y x (some_number (length y.sent.before) (length x.sent.before) (sym y.sent.root_is ∙ root)) g h;
}

pub arrived_of : (t : Chassis) (j : Journal) (k m op : ℕ) (bytes : List ℕ) → IsRun t.plan j → HasOutput j k m (outputs.Arrived op bytes)
    → ArrivedOf t.plan j k m op bytes
arrived_of t j k m op bytes run h = by_end (reached_by t j run k m op bytes (step_of t j k m (outputs.Arrived op bytes) run h))
  where
    by_end : Reached t j k m op bytes → ArrivedOf t.plan j k m op bytes
    by_end x =
        let end = reads_end x.sent.instance x.sent.hop.opening.down x.sent.reads in
        let then = run_older t.plan x.sent.before j
        (before_that (Step x.sent.at (inputs.Command (commands.Produce x.sent.instance)) x.sent.outs) x.sent.before j x.sent.older) run in
        told t j k m op bytes run h x end.config end.consume x.sent.instance
        (ends_at x.sent.config (part x.sent.at.0 x.sent.before)
        (run_history t.plan x.sent.before x.sent.at.0 x.sent.config then x.sent.is_module) x.sent.hop.opening.triad (Open x.sent.hop)
        end.config end.consume x.sent.instance x.sent.stands end.is) refl
