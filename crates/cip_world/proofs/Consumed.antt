-- Each datum that an end takes was entered on an open whose path leads there, and is taken once.
use Rattle.std.proofs.Common.{◌≡◌, ℕ, suc, true, false, List, ◌∷◌, Some, refl, sym, ap, subst, ◌∙◌, arith, length}
use Rattle.std.specs.FinMap as map
use Rattle.cip_base.specs.declared.numbers.ModuleId.{ModuleId}
use Rattle.cip_base.specs.declared.triad.Triad.{Triad}
use Rattle.cip_segment.specs.Reading.{segments_of}
use Rattle.cip_open.specs.Open.{Open as OpenRequest}
use Rattle.cip_hops.specs.declared.opening.HopDown.TheVariants.{End}
use Rattle.cip_hops.specs.declared.opening.HopUp.TheVariants.{Local as UpLocal}
use Rattle.cip_hops.specs.declared.opening.Opening.{Opening}
use Rattle.cip_hops.specs.declared.hop.Hop.{Hop}
use Rattle.cip_hops.specs.declared.hop.Held.TheVariants.{Open}
use Rattle.cip_hops.specs.declared.hop.Side.{Side}
use Rattle.cip_hops.specs.declared.hop.Side.TheVariants.{Down}
use Rattle.cip_hops.specs.Sides.{up_is_link}
use Rattle.cip_hops.specs.Hops.{is_hop_by_op}
use Rattle.cip_target.specs.ApplicationPath.{application_of}
use Rattle.cip_target.specs.declared.link.EndLink.{EndLink}
use Rattle.cip_event.specs.declared.event.Command.TheVariants as commands
use Rattle.cip_event.specs.declared.event.Output.{Output}
use Rattle.cip_event.specs.declared.event.Output.TheVariants as outputs
use Rattle.cip_laws.specs.Outputs.{is_datum, DatumOf, GoesUp, Arrives, GoesDown, IsConsumed}
use Rattle.cip_laws.specs.Histories.{IsHistory}
use Rattle.cip_routing.specs.State.{State}
use Rattle.cip_laws.specs.Turns.{Has}
use Rattle.cip_routing.proofs.Found.{found_own}
use Rattle.cip_routing.proofs.Removed.{open_at}
use Rattle.cip_laws.proofs.Triads.{own_triads}
use Rattle.cip_chassis.specs.Walk.{walk}
use Rattle.cip_chassis.proofs.Walks.{walk_ends}
use Rattle.cip_chassis.specs.Plan.{Plan}
use Rattle.cip_world.specs.declared.journal.Entry.{Entry}
use Rattle.cip_world.specs.declared.journal.Entry.TheVariants.{Step}
use Rattle.cip_event.specs.declared.frame.FrameName.{FrameName}
use Rattle.cip_world.specs.declared.journal.Input.{Input}
use Rattle.cip_world.specs.declared.journal.Input.TheVariants as inputs
use Rattle.cip_world.specs.Entering.{HasOutput, IsOpened, LeadsTo, ConsumedOf}
use Rattle.cip_world.specs.Journals.{Journal, Flight, entry_at, part}
use Rattle.cip_world.specs.Mirrors.{IsOlder}
use Rattle.cip_world.specs.Roots.{root_of}
use Rattle.cip_world.specs.Runs.{IsRun, state_in}
use Rattle.cip_world.proofs.Chassis.{Chassis}
use Rattle.cip_world.proofs.Commands.{OpenOf, opened_by_op}
use Rattle.cip_world.proofs.Entered.{Behind, Entered, came_down, carried_down, entered}
use Rattle.cip_world.proofs.Given.{Given, Source, CameBy, EnteredBy, MadeBy, given, by_op}
use Rattle.cip_world.proofs.Leading.{EndsAt, ends_at}
use Rattle.cip_world.proofs.Lines.{entered_gives, one_frame_of, line_gives, Line, IsEnd, is_end, ends_once, line_datum}
use Rattle.cip_world.proofs.Moments.{at_number, number_at, before_that, older_trans, run_older}
use Rattle.cip_world.proofs.Frames.{out_of}
use Rattle.cip_world.proofs.Parts.{turn_of, run_history}
use Rattle.cip_world.proofs.Steps.{turn_history}

-- ---- what an earlier moment has, a later one has

pub entry_later : (l j : Journal) (k : ℕ) (e : Entry) → IsOlder l j → entry_at l k ≡ Some e → entry_at j k ≡ Some e
entry_later l j k e older h =
    let at = at_number l k e h in
    ap (entry_at j) (sym at.number) ∙ number_at e at.before j (older_trans (e ∷ at.before) l j at.older older)

pub opened_later : (t : Plan) (l j : Journal) (m op : ℕ) (request : OpenRequest) → IsOlder l j → IsOpened t l m op request → IsOpened t j m op request
opened_later t l j m op request older o = record {
  entry = o.entry;
  at = o.at;
  command = o.command;
  outs = o.outs;
  is = entry_later l j o.entry (Step o.at (inputs.Command o.command) o.outs) older o.is;
  at_is = o.at_is;
  taken = o.taken;
  config = o.config;
  is_module = o.is_module;
  asks = o.asks;
}

-- ---- a step of a run, by its number

-- entry k, as the newest step of a run
pub record StepOf (t : Chassis) (j : Journal) (k m : ℕ) (x : Output) : Type 0 where
  pub at : ModuleId
  pub input : Input
  pub outs : List Output
  pub before : Journal
  pub older : IsOlder (Step at input outs ∷ before) j
  pub number : length before ≡ k
  pub at_is : at.0 ≡ m
  pub is : entry_at j k ≡ Some (Step at input outs)
  pub run : IsRun t.plan (Step at input outs ∷ before)
  pub has : Has outs x

pub step_of : (t : Chassis) (j : Journal) (k m : ℕ) (x : Output) → IsRun t.plan j → (h : HasOutput j k m x) → StepOf t j k m x
step_of t j k m x run h =
    let e = at_number j k (Step h.at h.input h.outs) h.is in
    record {
      at = h.at;
      input = h.input;
      outs = h.outs;
      before = e.before;
      older = e.older;
      number = e.number;
      at_is = h.at_is;
      is = h.is;
      run = run_older t.plan (Step h.at h.input h.outs ∷ e.before) j e.older run;
      has = h.has;
    }

-- ---- what is consumed

consumed_parts : (q r : Triad) (i k : ℕ) (b d : List ℕ) → outputs.Consumed q i b ≡ outputs.Consumed r k d → (q ≡ r) × (i ≡ k) × (b ≡ d)
consumed_parts q r i k b d e = (cc, cc, cc)

no_local : (o : Opening) (op c i p : ℕ) → o.up ≡ UpLocal op → EndsAt o c i p → ⊥
no_local o op c i p local e = let no : false ≡ true = sym (ap up_is_link local) ∙ e.came in cc

-- the end that took the datum of entry k, and the line by which it came from the Enter
pub record Taken (t : Chassis) (j : Journal) (k e : ℕ) (triad : Triad) (instance : ℕ) (bytes : List ℕ) : Type 0 where
  pub o : Opening
  pub config : ℕ
  pub produce : ℕ
  pub triad_is : o.triad ≡ triad
  pub ends : EndsAt o config instance produce
  pub entered : Entered t j k e o bytes
  pub behind : Behind j (length entered.before) k

module _ (t : Chassis) (j : Journal) (run : IsRun t.plan j) (k e : ℕ) (triad : Triad) (instance : ℕ) (bytes : List ℕ)
    (s : StepOf t j k e (outputs.Consumed triad instance bytes)) where
  abbrev state : State
  state = state_in s.run.1.config s.at.0 s.before

  history : IsHistory s.run.1.config (part s.at.0 s.before)
  history = run_history t.plan s.before s.at.0 s.run.1.config s.run.0 s.run.1.is_module

  module _ (hop : Hop) (stands : map.get state.hops.held hop.opening.triad ≡ Some (Open hop)) (c p : ℕ) (down : hop.opening.down ≡ End c instance p) where
    ends : EndsAt hop.opening c instance p
    ends = ends_at s.run.1.config (part s.at.0 s.before) history hop.opening.triad (Open hop) c instance p stands down

    by_source : (b : List ℕ) → b ≡ bytes → hop.opening.triad ≡ triad → Source state s.run.1.event Down hop b → Taken t j k e triad instance bytes
    by_source b bytes_are triad_is (EnteredBy of side event_is found sized) =
        absurd (no_local hop.opening of c instance p (by_op state hop of (own_triads s.run.1.config (part s.at.0 s.before) history) found) ends)
    by_source b bytes_are triad_is (MadeBy held side made_is made) = absurd (cc)
    by_source b bytes_are triad_is (CameBy came) =
        let x = came_down t j s.at s.input s.outs s.before s.older s.run hop b stands came in
        let y = x.above.sent in
        let first = entered (suc (length y.before)) t j y.at y.input y.outs y.before
        (older_trans (Step y.at y.input y.outs ∷ y.before) s.before j y.older (before_that (Step s.at s.input s.outs) s.before j s.older))
        x.above.run (omega arith) x.above.above b x.above.stands x.above.source in
        let both = carried_down t j s.at s.input s.outs s.before s.older hop b x first in
        taken_as (subst (λ (n : ℕ). (h : Entered t j n e hop.opening bytes) × Behind j (length h.before) n) s.number
        (subst (λ (d : List ℕ). (h : Entered t j (length s.before) e hop.opening d) × Behind j (length h.before) (length s.before)) bytes_are
        (subst (λ (m : ℕ). (h : Entered t j (length s.before) m hop.opening b) × Behind j (length h.before) (length s.before)) s.at_is both)))
      where
        taken_as : (h : Entered t j k e hop.opening bytes) × Behind j (length h.before) k → Taken t j k e triad instance bytes
        taken_as h = record { o = hop.opening; config = c; produce = p; triad_is = triad_is; ends = ends; entered = h.0; behind = h.1 }

  taken_from : (v : Given state s.run.1.event (outputs.Consumed triad instance bytes)) → DatumOf v.hop v.side v.bytes (outputs.Consumed triad instance bytes)
      → Taken t j k e triad instance bytes
  taken_from v (GoesUp port to their_id side up x_is) = absurd (cc)
  taken_from v (Arrives op side up x_is) = absurd (cc)
  taken_from v (GoesDown port to side down x_is) = absurd (cc)
  taken_from v (IsConsumed c consume p side down x_is) =
      let parts = consumed_parts triad v.hop.opening.triad instance consume bytes v.bytes x_is in
      by_source v.hop v.stands c p (down ∙ ap (λ (i : ℕ). End c i p) (sym parts.1)) v.bytes (sym parts.2) (sym parts.0)
      (subst (λ (d : Side). Source state s.run.1.event d v.hop v.bytes) side v.source)

  pub taken_of : Taken t j k e triad instance bytes
  taken_of =
      let v = given s.run.1.config (part s.at.0 s.before) (turn_of s.run.1.event s.outs) (turn_history t.plan s.before s.at s.input s.outs s.run)
      (outputs.Consumed triad instance bytes) refl s.has in
      taken_from v v.of

-- ---- once

-- where a datum that no link takes on is given, the line ends
pub gives_end : (t : Plan) (j : Journal) (first : FrameName) (n k m : ℕ) (x : Output) → IsRun t j → Line j first n k → HasOutput j k m x → is_datum x ≡ true
    → ((y : Flight) → x ≡ out_of y → ⊥) → IsEnd j k
gives_end t j first n k m x run line h data_ unsent =
    let one = line_gives t j first n k run line in
    is_end j k one x (subst (λ (os : List Output). Has os x) (step_outs h.at one.at h.input one.input h.outs one.outs (sym h.is ∙ one.is)) h.has) data_ unsent
  where
    step_outs : (a b : ModuleId) (i n : Input) (o p : List Output) → Some (Step a i o) ≡ Some (Step b n p) → o ≡ p
    step_outs a b i n o p e = cc

enters : (t : Chassis) (j : Journal) (k g : ℕ) (o : Opening) (bytes : List ℕ) → (e : Entered t j k g o bytes)
    → entry_at j (length e.before) ≡ Some (Step e.at (inputs.Command (commands.Enter e.of bytes)) e.outs)
enters t j k g o bytes e = number_at (Step e.at (inputs.Command (commands.Enter e.of bytes)) e.outs) e.before j e.older

some_number : (a b : ℕ) → Some a ≡ Some b → a ≡ b
some_number a b e = cc

-- two that one Enter entered are one
module _ (t : Chassis) (j : Journal) (run : IsRun t.plan j) (k e : ℕ) (q : Triad) (c : ℕ) (b : List ℕ) (h : HasOutput j k e (outputs.Consumed q c b))
    (x : Taken t j k e q c b)
    (i n : ℕ) (r : Triad) (d : ℕ) (a : List ℕ) (g : HasOutput j i n (outputs.Consumed r d a)) (y : Taken t j i n r d a)
    (same : root_of j i ≡ Some (length x.entered.before)) where
  root_same : length y.entered.before ≡ length x.entered.before
  root_same = some_number (length y.entered.before) (length x.entered.before) (sym y.entered.root_is ∙ same)

  first_same : y.behind.first ≡ x.behind.first
  first_same = one_frame_of j (length x.entered.before)
      (entered_gives t.plan j (length x.entered.before) x.entered.at x.entered.of b x.entered.outs run (enters t j k e x.o b x.entered))
      y.behind.first x.behind.first (line_datum j y.behind.first y.behind.steps i y.behind.line) (line_datum j x.behind.first x.behind.steps k x.behind.line)
      (y.behind.starts ∙ root_same) x.behind.starts

  pub taken_once : i ≡ k
  taken_once = ends_once t.plan j x.behind.first y.behind.steps x.behind.steps i k run
      (subst (λ (f : FrameName). Line j f y.behind.steps i) first_same y.behind.line) x.behind.line
      (gives_end t.plan j y.behind.first y.behind.steps i n (outputs.Consumed r d a) run y.behind.line g refl (λ z e. cc))
      (gives_end t.plan j x.behind.first x.behind.steps k e (outputs.Consumed q c b) run x.behind.line h refl (λ z e. cc))

-- ---- where the open leads

pub leads_to : (t : Plan) (m e : ℕ) (asked path : List ℕ) (o : Opening) (c i p : ℕ) → (ends : EndsAt o c i p) → asked ≡ path → walk t m path ≡ walk t e o.path
    → LeadsTo t m asked e ends.points.application
leads_to t m e asked path o c i p ends path_is walk_is = record {
  stop = record { at = e; path = o.path };
  walk_is = ap (walk t m) path_is ∙ walk_is ∙ walk_ends t e o.path ends.ends;
  at_is = refl;
  application_is = ap (λ (b : List ℕ). application_of (segments_of b)) (sym ends.path_is) ∙ ends.points.path_is;
}

consumes : (o : Opening) (c i p : ℕ) → (ends : EndsAt o c i p) → ends.points.application.consume ≡ i
consumes o c i p ends = sym (ap (λ (l : EndLink). l.consume) ends.points.link_is) ∙ ends.consume_is

pub produces : (o : Opening) (c i p : ℕ) → (ends : EndsAt o c i p) → ends.points.application.produce ≡ p
produces o c i p ends = sym (ap (λ (l : EndLink). l.produce) ends.points.link_is) ∙ ends.produce_is

-- ---- the theorem

told : (t : Chassis) (j : Journal) (k e : ℕ) (triad : Triad) (instance : ℕ) (bytes : List ℕ) → IsRun t.plan j
    → HasOutput j k e (outputs.Consumed triad instance bytes)
    → Taken t j k e triad instance bytes → ConsumedOf t.plan j k e triad instance bytes
told t j k e triad instance bytes run h x =
    let n = x.entered in
    let old : IsOlder n.before j = before_that (Step n.at (inputs.Command (commands.Enter n.of bytes)) n.outs) n.before j n.older in
    let then : IsRun t.plan n.before = run_older t.plan n.before j old run in
    let own = own_triads n.config (part n.at.0 n.before) (run_history t.plan n.before n.at.0 n.config then n.is_module) in
    let state : State = state_in n.config n.at.0 n.before in
    let found = found_own (is_hop_by_op n.of) state.hops n.hop n.found own in
    let o : OpenOf t.plan n.before n.at.0 n.of n.hop.opening =
    opened_by_op t.plan n.before n.at.0 n.config then n.is_module n.hop.opening.triad (Open n.hop) n.of (open_at state.hops n.hop.opening.triad n.hop found.0)
    (by_op state n.hop n.of own n.found) in
    record {
      root = length n.before;
      root_is = n.root_is;
      m = n.at.0;
      op = n.of;
      entered = record { at = n.at; outs = n.outs; is = enters t j k e x.o bytes n; at_is = refl; taken = n.taken };
      request = o.request;
      opened = opened_later t.plan n.before j n.at.0 n.of o.request old o.opened;
      triad_is = o.triad_is ∙ n.triad_is ∙ x.triad_is;
      application = x.ends.points.application;
      leads = leads_to t.plan n.at.0 e o.request.path n.hop.opening.path x.o x.config instance x.produce x.ends o.path_is n.walk_is;
      instance_is = consumes x.o x.config instance x.produce x.ends;
      only = λ i n r d a g same.
          taken_once t j run k e triad instance bytes h x i n r d a g
          (taken_of t j run i n r d a (step_of t j i n (outputs.Consumed r d a) run g)) same;
    }

pub consumed_of : (t : Chassis) (j : Journal) (k e : ℕ) (triad : Triad) (instance : ℕ) (bytes : List ℕ) → IsRun t.plan j
    → HasOutput j k e (outputs.Consumed triad instance bytes)
    → ConsumedOf t.plan j k e triad instance bytes
consumed_of t j k e triad instance bytes run h =
    told t j k e triad instance bytes run h (taken_of t j run k e triad instance bytes (step_of t j k e (outputs.Consumed triad instance bytes) run h))
