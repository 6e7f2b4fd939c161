-- A journal in which each module was given what it could be given, and what each module did is a history of it, is a run; and what waits after such a journal.
use Rattle.std.proofs.Common.{◌≡◌, ℕ, zero, suc, List, [], ◌∷◌, ◌++◌, Option, Some, None, Bool, true, false}
use Rattle.std.proofs.Common.{not, ◌||◌, refl, sym, subst, cond, filter, length, arith, ◌<◌, ◌∙◌, ap, eqb}
use Rattle.std.specs.Prelude.{slice_get}
use Rattle.std.specs.List.{AllByRecursion}
use Rattle.std.proofs.lemmas.Bool.{eq-eqb}
use Rattle.std.proofs.lemmas.List.Elements.{filter-append}
use Rattle.cip_base.specs.declared.numbers.ModuleId.{ModuleId}
use Rattle.cip_config.specs.declared.config.ModuleSettings.{ModuleSettings}
use Rattle.cip_event.specs.declared.event.Event.{Event}
use Rattle.cip_event.specs.declared.event.Output.{Output}
use Rattle.cip_laws.specs.Histories.{Turn, IsHistory, state_after, next_state}
use Rattle.cip_routing.specs.Table.{table_step}
use Rattle.cip_chassis.specs.Plan.{Plan}
use Rattle.cip_chassis.specs.Nodes.{Way, across as goes}
use Rattle.cip_event.specs.declared.frame.FrameName.{FrameName}
use Rattle.cip_world.specs.declared.journal.Input.{Input}
use Rattle.cip_world.specs.declared.journal.Input.TheVariants as inputs
use Rattle.cip_world.specs.declared.journal.Entry.{Entry}
use Rattle.cip_world.specs.declared.journal.Entry.TheVariants.{Step, Lost}
use Rattle.cip_world.specs.Journals.{Journal, Flight, event_of, with_turn, part, brought_by, is_that, names, is_named}
use Rattle.cip_world.specs.Runs.{IsModule, IsArrival, IsRun}
use Rattle.cip_world.specs.Waiting.{frames_in, frames, waiting}
use Rattle.cip_world.proofs.Frames.{frame_older}
use Rattle.cip_world.proofs.Named.{name_eq}
use Rattle.cip_world.proofs.Parts.{given_event}
use Rattle.cip_world.proofs.Waits.{IsFrom, from_in, frame_before, filter_both, filter_all}
use Rattle.cip_threads.specs.Flows.{IsOpenTo, IsFlow, HasNoLoss}

pub some_same : {A : Type 0} (a b : A) → Some a ≡ Some b → a ≡ b
some_same a b e = cc

pub at_place : {A : Type 0} (xs : List A) (m : ℕ) → m < length xs → (x : A) × (slice_get xs m ≡ Some x)
at_place [] m lt = absurd (omega arith)
at_place (x ∷ xs) zero lt = (x, refl)
at_place (x ∷ xs) (suc m) lt = at_place xs m (omega arith)

-- ---- a flow of histories is a run

tail_of : (b : Bool) (o : Option Event) (event : Event) → o ≡ Some event → (config : ModuleSettings) (outs : List Output) (h : List Turn)
    → IsHistory config (cond b (with_turn o outs h) h) → IsHistory config h
tail_of true None event is config outs h p = cc
tail_of true (Some x) event is config outs h p = p.0
tail_of false o event is config outs h p = p

head_of : (b : Bool) → b ≡ true → (o : Option Event) (event : Event) → o ≡ Some event → (config : ModuleSettings) (outs : List Output) (h : List Turn)
    → IsHistory config (cond b (with_turn o outs h) h)
    → table_step config (state_after config h) event ≡ Some (record { state = next_state config (state_after config h) event; outputs = outs })
head_of true e None event is config outs h p = cc
head_of true e (Some x) event is config outs h p =
    subst (λ (y : Event). table_step config (state_after config h) y ≡ Some (record { state = next_state config (state_after config h) y; outputs = outs }))
    (some_same x event is) p.1
head_of false e o event is config outs h p = cc

pub flow_is_run : (t : Plan) (j : Journal) → IsFlow t j → ((m : ℕ) (config : ModuleSettings) → IsModule t m config → IsHistory config (part m j)) → IsRun t j
flow_is_run t [] flow all = tt
flow_is_run t (Step n input outs ∷ j) flow all =
    let at = at_place t.modules n.0 flow.1 in
    let now = flow.2 in
    let is = given_event t j n.0 input now.event now.given in (
      flow_is_run t j flow.0 (λ m config there. tail_of (eqb n.0 m) (event_of j input) now.event is config outs (part m j) (all m config there)),
      record {
        event = now.event;
        given = now.given;
        config = at.0;
        is_module = at.1;
        new = next_state at.0 (state_after at.0 (part n.0 j)) now.event;
        step = head_of (eqb n.0 n.0) (eq-eqb n.0 n.0 refl) (event_of j input) now.event is at.0 outs (part n.0 j) (all n.0 at.0 at.1);
      },
    )
flow_is_run t (Lost frame ∷ j) flow all = absurd flow

pub flow_lossless : (t : Plan) (j : Journal) → IsFlow t j → HasNoLoss j
flow_lossless t [] flow = tt
flow_lossless t (Step n input outs ∷ j) flow = flow_lossless t j flow.0
flow_lossless t (Lost frame ∷ j) flow = flow

-- ---- what waits

-- what is given was sent before
pub given_before : (t : Plan) (j : Journal) (m : ℕ) (input : Input) (f : FrameName) → IsOpenTo t j m input
    → is_that f (brought_by input) ≡ true → f.entry < length j
given_before t j m (inputs.Command command) f now h = absurd (cc)
given_before t j m (inputs.Tick ms) f now h = absurd (cc)
given_before t j m (inputs.Frame port from name) f now h =
    let w = now.given.waits in
    let l = frame_before j name w.flight w.sent in
    subst (λ (x : FrameName). x.entry < length j) (sym (name_eq f name h)) l

either_before : (t : Plan) (j : Journal) (m : ℕ) (input : Input) (f : FrameName) → IsOpenTo t j m input
    → (is_named j f ≡ true → f.entry < length j) → (b : Bool)
    → is_that f (brought_by input) ≡ b → (b || is_named j f) ≡ true → f.entry < suc (length j)
either_before t j m input f now old true k is = let l = given_before t j m input f now k in omega (arith, l)
either_before t j m input f now old false k is = let l = old is in omega (arith, l)

named_before : (t : Plan) (j : Journal) (f : FrameName) → IsFlow t j → is_named j f ≡ true → f.entry < length j
named_before t [] f flow h = absurd (cc)
named_before t (Step n input outs ∷ j) f flow h =
    either_before t j n.0 input f flow.2 (λ is. named_before t j f flow.0 is) (is_that f (brought_by input)) refl h
named_before t (Lost frame ∷ j) f flow h = absurd flow

unnamed : (t : Plan) (j : Journal) (n : ModuleId) (input : Input) (outs : List Output) (f : FrameName) → IsFlow t (Step n input outs ∷ j) → f.entry ≡ length j
    → (is_that f (brought_by input) || is_named j f) ≡ false
unnamed t j n input outs f flow is = by (is_that f (brought_by input)) (is_named j f) refl refl
  where
    by : (a b : Bool) → is_that f (brought_by input) ≡ a → is_named j f ≡ b → (a || b) ≡ false
    by true b p q = let l = given_before t j n.0 input f flow.2 p in absurd (omega (arith, l, is))
    by false true p q = let l = named_before t j f flow.0 q in absurd (omega (arith, l, is))
    by false false p q = refl

all_unnamed : (t : Plan) (j : Journal) (n : ModuleId) (input : Input) (outs : List Output) (fs : List FrameName) → IsFlow t (Step n input outs ∷ j)
    → AllByRecursion (IsFrom (length j) 0) fs → AllByRecursion (λ f. (is_that f (brought_by input) || is_named j f) ≡ false) fs
all_unnamed t j n input outs [] flow h = tt
all_unnamed t j n input outs (f ∷ fs) flow h = (unnamed t j n input outs f flow h.0.0, all_unnamed t j n input outs fs flow h.1)

-- an entry takes out the frame that it was given, and adds those that it sends
pub flow_next : (t : Plan) (j : Journal) (n : ModuleId) (input : Input) (outs : List Output) → IsFlow t (Step n input outs ∷ j)
    → waiting t (Step n input outs ∷ j) ≡ filter (λ f. not (is_that f (brought_by input))) (waiting t j) ++ frames_in t (length j) (Step n input outs)
flow_next t j n input outs flow =
    let e : Entry = Step n input outs in
    filter-append (λ f. not (names f e || is_named j f)) (frames t j) (frames_in t (length j) e)
    ∙ ap (λ (x : List FrameName). x ++ filter (λ f. not (names f e || is_named j f)) (frames_in t (length j) e))
    (filter_both (λ f. names f e) (is_named j) (frames t j))
    ∙ ap (λ (x : List FrameName). filter (λ f. not (names f e)) (waiting t j) ++ x)
    (filter_all (λ f. names f e || is_named j f) (frames_in t (length j) e)
    (all_unnamed t j n input outs (frames_in t (length j) e) flow (from_in t (length j) e)))

-- ---- what may be given still may

one_arrival : (t : Plan) (j : Journal) (f : FrameName) (m p n q : ℕ) (from other : List ℕ) (x y : Event) → IsArrival t j f m p from x
    → IsArrival t j f n q other y → m ≡ n
one_arrival t j f m p n q from other x y a b =
    let flights = some_same a.waits.flight b.waits.flight (sym a.waits.sent ∙ b.waits.sent) in
    let ways = some_same a.waits.there b.waits.there (sym a.waits.leads ∙ ap (λ (z : Flight). goes t z.way) flights ∙ b.waits.leads) in
    ap (λ (w : Way). w.at) (sym a.here ∙ ways ∙ b.here)

-- one frame comes to one module
pub one_place : (t : Plan) (j : Journal) (m n : ℕ) (a b : Input) (f : FrameName) → IsOpenTo t j m a → IsOpenTo t j n b → brought_by a ≡ Some f
    → is_that f (brought_by b) ≡ true → m ≡ n
one_place t j m n (inputs.Command command) b f x y is that = absurd (cc)
one_place t j m n (inputs.Tick ms) b f x y is that = absurd (cc)
one_place t j m n (inputs.Frame p from g) (inputs.Command command) f x y is that = absurd (cc)
one_place t j m n (inputs.Frame p from g) (inputs.Tick ms) f x y is that = absurd (cc)
one_place t j m n (inputs.Frame p from g) (inputs.Frame q other h) f x y is that =
    let same : h ≡ g = sym (name_eq f h that) ∙ sym (some_same g f is) in
    one_arrival t j g m p n q from other x.event y.event x.given (subst (λ (z : FrameName). IsArrival t j z n q other y.event) same y.given)

pub still_open : (t : Plan) (j : Journal) (n : ModuleId) (input : Input) (outs : List Output) (m : ℕ) (other : Input)
    → ((f : FrameName) → brought_by other ≡ Some f → is_that f (brought_by input) ≡ false) → IsOpenTo t j m other → IsOpenTo t (Step n input outs ∷ j) m other
still_open t j n input outs m (inputs.Command command) apart now = record { event = now.event; given = now.given }
still_open t j n input outs m (inputs.Tick ms) apart now = record { event = now.event; given = now.given }
still_open t j n input outs m (inputs.Frame port from f) apart now =
    let a = now.given in
    record {
      event = now.event;
      given = record {
        waits = record {
          flight = a.waits.flight;
          there = a.waits.there;
          sent = frame_older (Step n input outs) j f a.waits.flight a.waits.sent;
          leads = a.waits.leads;
          fresh = ap (λ b. b || is_named j f) (apart f refl) ∙ a.waits.fresh;
        };
        here = a.here;
        event_is = a.event_is;
      };
    }
