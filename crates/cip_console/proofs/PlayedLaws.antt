-- A part of a run under way.
use Rattle.std.proofs.Common.{◌≡◌, ℕ, ◌+◌, ◌-◌, ◌<◌, ◌≤◌, zero, suc, arith, Bool, true, false, List, [], ◌∷◌, ◌++◌, length, Option, Some, None, Result, Ok, Err}
use Rattle.std.proofs.Common.{refl, sym, ap, ◌∙◌, subst, append_assoc, append-nil}
use Rattle.std.specs.Prelude.{slice_get}
use Rattle.cip_base.specs.declared.numbers.ModuleId.{ModuleId}
use Rattle.cip_config.specs.declared.config.ModuleSettings.{ModuleSettings}
use Rattle.cip_event.specs.declared.event.Event.{Event}
use Rattle.cip_routing.specs.declared.tables.Tables.{Tables}
use Rattle.cip_routing.specs.State.{State}
use Rattle.cip_routing.specs.Views.{ShowsState}
use Rattle.cip_chassis.specs.Plan.{Plan}
use Rattle.cip_chassis.specs.Nodes.{Way, across}
use Rattle.cip_world.specs.declared.fault.WorldFault.{WorldFault}
use Rattle.cip_world.specs.declared.fault.WorldFault.TheVariants as faults
use Rattle.cip_event.specs.declared.frame.FrameName.{FrameName}
use Rattle.cip_world.specs.declared.journal.Entry.TheVariants.{Lost}
use Rattle.cip_world.specs.declared.journal.Input.{Input}
use Rattle.cip_world.specs.declared.journal.Input.TheVariants as inputs
use Rattle.cip_world.specs.Journals.{Journal, Flight, event_of, frame_at, is_named}
use Rattle.cip_world.specs.Nexts.{next, delivered}
use Rattle.cip_world.specs.Runs.{IsRun, IsStepAt, IsWaiting, state_in}
use Rattle.cip_world.specs.Waiting.{waiting}
use Rattle.cip_world.specs.Worlds.{AddsStep, AddsArrival, AddsLoss, DeliversOne, IsFeedFault, IsFrameFault, IsShownAt}
use Rattle.cip_world.proofs.Nexts.{step_is_next, no_next, no_module_next, arrival_is_delivered}
use Rattle.cip_console.specs.declared.playing.PlayFault.{PlayFault}
use Rattle.cip_console.specs.declared.playing.PlayFault.TheVariants.{Stopped, Write, NoMemory}
use Rattle.cip_script.specs.declared.steps.ScriptFault.{ScriptFault}
use Rattle.cip_script.specs.declared.steps.ScriptFault.TheVariants.{NoFrame, ClockFull}
use Rattle.cip_console.specs.Known.{AppendsFront}
use Rattle.cip_console.specs.Playing.{Prints, Played, Plays}
use Rattle.cip_transcript.specs.Show.{name_of, names_of}
use Rattle.cip_transcript.specs.TablesText.{tables_text}
use Rattle.cip_console.specs.Transcript.{Part, printed, continued, then_, newest, shown, first_delivered, deliveries, end_text, ended, given, waits, if_waits}
use Rattle.cip_console.specs.Transcript.{brought, lost, ran, tables_of, tables_in, tabled}
use Rattle.cip_console.proofs.Prints.{prints_nothing, prints_more, prints_then, front_more, front_of_prints, front_then}

-- what was printed so far, and what the rest prints
pub record Playing (all : Part) (old new : Option (List ℕ)) (before after : List ℕ) (rest : Part) : Type 0 where
  pub done : List ℕ
  pub prints : Prints old new before after done
  pub is : all ≡ printed done rest

pub playing_start : (old : Option (List ℕ)) (before : List ℕ) (all : Part) → Playing all old old before before all
playing_start old before all = record { done = []; prints = prints_nothing old before; is = refl }

-- one of n more deliveries
one_of : (limit i : ℕ) → i < limit → limit - i ≡ suc (limit - (i + 1))
one_of limit i h = omega arith

none_of : (limit i : ℕ) → limit ≤ i → limit - i ≡ 0
none_of limit i h = omega arith

-- ---- what a world adds

added_next : (t : Plan) (old new : Journal) (m : ModuleId) (input : _) (k : ℕ) → AddsStep old new m input k → IsRun t new → next t old m input ≡ Some new
added_next t old new m input k a run =
    let step : IsRun t old × IsStepAt t old m.0 input a.outputs = subst (IsRun t) a.is run in
    step_is_next t old m input a.outputs step.1 ∙ ap (λ (j : Journal). Some j) (sym a.is)

one_delivered_is : (t : Plan) (old new : Journal) → (d : DeliversOne t old new) → IsRun t new → delivered t old d.name ≡ Some new
one_delivered_is t old new d run =
    let a = d.arrives.adds in
    let step : IsRun t old × IsStepAt t old d.arrives.at.0 (inputs.Frame d.arrives.port d.arrives.from d.name) a.outputs = subst (IsRun t) a.is run in
    arrival_is_delivered t old d.arrives.at d.arrives.port d.arrives.from d.name a.outputs step.1 ∙ ap (λ (j : Journal). Some j) (sym a.is)

past_get : (xs : List ModuleSettings) (i : ℕ) → length xs ≤ i → slice_get xs i ≡ None
past_get [] i l = refl
past_get (x ∷ xs) zero l = absurd (omega (arith, l))
past_get (x ∷ xs) (suc i) l = past_get xs i (omega (arith, l))

-- ---- deliveries

none_delivered : (t : Plan) (n : ℕ) (j : Journal) → waiting t j ≡ [] → deliveries t n j ≡ record { text = []; after = Ok j }
unfolding deliveries
none_delivered t zero j e = refl
none_delivered t (suc n) j e = ap (λ all. first_delivered t j all (deliveries t n)) e

first_is : (t : Plan) (j : Journal) (f : FrameName) (rest : Journal → Part) (xs : List FrameName) → slice_get xs 0 ≡ Some f
    → first_delivered t j xs rest ≡ then_ (shown (names_of t) (delivered t j f)) rest
first_is t j f rest [] e = absurd (cc)
first_is t j f rest (x ∷ xs) e = let same : x ≡ f = cc in ap (λ (g : FrameName). then_ (shown (names_of t) (delivered t j g)) rest) same

one_delivered : (t : Plan) (n : ℕ) (j new : Journal) (f : FrameName) → slice_get (waiting t j) 0 ≡ Some f → delivered t j f ≡ Some new
    → deliveries t (suc n) j ≡ printed (newest (names_of t) new) (deliveries t n new)
unfolding deliveries
one_delivered t n j new f e d =
    first_is t j f (deliveries t n) (waiting t j) e ∙ ap (λ (o : Option Journal). then_ (shown (names_of t) o) (deliveries t n)) d

printed_twice : (text more : List ℕ) (part : Part) → printed text (printed more part) ≡ printed (text ++ more) part
printed_twice text more part = ap (λ l. record { text = l; after = part.after }) (sym (append_assoc text more part.text))

-- the first that waited arrived, and what was gathered may have been written
pub one_played : (t : Plan) (all : Part) (old mid new : Option (List ℕ)) (before between after : List ℕ) (limit i : ℕ) (j k : Journal) → i < limit
    → Playing all old mid before between (deliveries t (limit - i) j) → DeliversOne t j k → IsRun t k → Prints mid new between after (newest (names_of t) k)
    → Playing all old new before after (deliveries t (limit - (i + 1)) k)
one_played t all old mid new before between after limit i j k l p d run f =
    let text = newest (names_of t) k in
    record {
      done = p.done ++ text;
      prints = prints_then _ _ _ _ _ _ _ _ p.prints f;
      is = p.is ∙ ap (λ n. printed p.done (deliveries t n j)) (one_of limit i l)
          ∙ ap (printed p.done) (one_delivered t (limit - (i + 1)) j k d.name d.least (one_delivered_is t j k d run))
          ∙ printed_twice p.done text (deliveries t (limit - (i + 1)) k);
    }

-- the entry of an arrival could not be written
pub one_unwritten : (t : Plan) (all : Part) (old mid new : Option (List ℕ)) (before between : List ℕ) (limit i : ℕ) (j k : Journal) → i < limit
    → Playing all old mid before between (deliveries t (limit - i) j) → DeliversOne t j k → IsRun t k → AppendsFront mid new (between ++ newest (names_of t) k)
    → AppendsFront old new (before ++ all.text)
one_unwritten t all old mid new before between limit i j k l p d run f =
    let text = newest (names_of t) k in
    let rest = deliveries t (limit - (i + 1)) k in
    let is : all ≡ printed p.done (printed text rest) =
    p.is ∙ ap (λ n. printed p.done (deliveries t n j)) (one_of limit i l)
    ∙ ap (printed p.done) (one_delivered t (limit - (i + 1)) j k d.name d.least (one_delivered_is t j k d run)) in
    subst (λ (part : Part). AppendsFront old new (before ++ part.text)) (sym is)
    (front_then old mid new before between p.done (text ++ rest.text) p.prints
    (subst (AppendsFront mid new) (append_assoc between text rest.text) (front_more mid new (between ++ text) rest.text f)))

pub front_so_far : (all rest : Part) (old new : Option (List ℕ)) (before after : List ℕ) → Playing all old new before after rest
    → AppendsFront old new (before ++ all.text)
front_so_far all rest old new before after p =
    subst (λ (part : Part). AppendsFront old new (before ++ part.text)) (sym p.is) (front_of_prints old new before after p.done rest.text p.prints)

-- nothing waits any more, or so many were delivered
over : (all rest : Part) (old new : Option (List ℕ)) (before after : List ℕ) (j : Journal) → Playing all old new before after rest
    → rest ≡ record { text = []; after = Ok j }
    → Played all old new before after j
over all rest old new before after j p e =
    let is : all ≡ record { text = p.done ++ []; after = Ok j } = p.is ∙ ap (printed p.done) e in
    record {
      ends = ap (λ (part : Part). part.after) is;
      prints = subst (Prints old new before after) (sym (ap (λ (part : Part). part.text) is ∙ append-nil p.done)) p.prints;
    }

pub none_waits : (t : Plan) (all : Part) (old new : Option (List ℕ)) (before after : List ℕ) (n : ℕ) (j k : Journal)
    → Playing all old new before after (deliveries t n j) → waiting t j ≡ []
    → k ≡ j → Played all old new before after k
none_waits t all old new before after n j k p e same =
    subst (Played all old new before after) (sym same) (over all (deliveries t n j) old new before after j p (none_delivered t n j e))

none_left : (t : Plan) (j : Journal) → deliveries t zero j ≡ record { text = []; after = Ok j }
unfolding deliveries
none_left t j = refl

pub all_delivered : (t : Plan) (all : Part) (old new : Option (List ℕ)) (before after : List ℕ) (limit i : ℕ) (j : Journal) → limit ≤ i
    → Playing all old new before after (deliveries t (limit - i) j) → Played all old new before after j
all_delivered t all old new before after limit i j h p =
    over all (deliveries t (limit - i) j) old new before after j p (ap (λ n. deliveries t n j) (none_of limit i h) ∙ none_left t j)

-- ---- `run N`

more_text : (part : Part) (after : Result Journal ScriptFault) (rest : Journal → Part)
    → (more : List ℕ) × ((continued part.text after rest).text ≡ part.text ++ more)
more_text part (Err fault) rest = ([], sym (append-nil part.text))
more_text part (Ok j) rest = ((rest j).text, refl)

-- a fault of the deliveries is one of the whole line
pub run_fails : (t : Plan) (limit : ℕ) (j : Journal) (old new : Option (List ℕ)) (before after : List ℕ) (k : Journal) (fault : PlayFault)
    → Plays (deliveries t limit j) old new before after k (Err fault) → Plays (ran t limit j) old new before after k (Err fault)
run_fails t limit j old new before after k (Stopped fault) p =
    let part = deliveries t limit j in
    let is : ran t limit j ≡ record { text = part.text; after = Err fault } = ap (λ (o : Result Journal ScriptFault). continued part.text o (ended t)) p.0 in
    (ap (λ (x : Part). x.after) is, subst (Prints old new before after) (sym (ap (λ (x : Part). x.text) is)) p.1)
run_fails t limit j old new before after k Write p =
    let part = deliveries t limit j in
    let more = more_text part part.after (ended t) in
    subst (AppendsFront old new) (append_assoc before part.text more.0 ∙ ap (λ l. before ++ l) (sym more.1)) (front_more old new (before ++ part.text) more.0 p)
run_fails t limit j old new before after k NoMemory p =
    let part = deliveries t limit j in
    let more = more_text part part.after (ended t) in
    subst (AppendsFront old new) (append_assoc before part.text more.0 ∙ ap (λ l. before ++ l) (sym more.1)) (front_more old new (before ++ part.text) more.0 p)

run_text : (t : Plan) (limit : ℕ) (j k : Journal) → (deliveries t limit j).after ≡ Ok k → ran t limit j ≡ printed (deliveries t limit j).text (ended t k)
run_text t limit j k e = ap (λ (o : Result Journal ScriptFault). continued (deliveries t limit j).text o (ended t)) e

-- the deliveries were played, and then the end was printed
pub run_played : (t : Plan) (limit : ℕ) (j k l : Journal) (old mid new : Option (List ℕ)) (before between after : List ℕ)
    → Played (deliveries t limit j) old mid before between k → l ≡ k
    → Prints mid new between after (end_text (waiting t k)) → Played (ran t limit j) old new before after l
run_played t limit j k l old mid new before between after p same e =
    let is = run_text t limit j k p.ends in
    record {
      ends = ap (λ (x : Part). x.after) is ∙ ap (λ (x : Journal). Ok x) (sym same);
      prints = subst (Prints old new before after) (sym (ap (λ (x : Part). x.text) is))
          (prints_then old mid new before between after (deliveries t limit j).text (end_text (waiting t k)) p.prints e);
    }

-- the end could not be gathered or written
pub run_unended : (t : Plan) (limit : ℕ) (j k : Journal) (old mid new : Option (List ℕ)) (before between : List ℕ)
    → Played (deliveries t limit j) old mid before between k
    → AppendsFront mid new (between ++ end_text (waiting t k))
    → AppendsFront old new (before ++ (ran t limit j).text)
run_unended t limit j k old mid new before between p f =
    subst (λ (x : Part). AppendsFront old new (before ++ x.text)) (sym (run_text t limit j k p.ends))
    (front_then old mid new before between (deliveries t limit j).text (end_text (waiting t k)) p.prints f)

-- what could not be written or gathered was a prefix
pub unwritten_as : (part : Part) (old new : Option (List ℕ)) (before after : List ℕ) (j : Journal) (fault : PlayFault)
    → ((why : ScriptFault) → fault ≡ Stopped why → ⊥)
    → AppendsFront old new (before ++ part.text)
    → Plays part old new before after j (Err fault)
unwritten_as part old new before after j (Stopped why) n f = absurd (n why refl)
unwritten_as part old new before after j Write n f = f
unwritten_as part old new before after j NoMemory n f = f

-- ---- one entry more

-- what one entry more prints
pub shown_played : (names : List (List ℕ)) (part : Part) (k : Journal) (old new : Option (List ℕ)) (before after : List ℕ)
    → part ≡ record { text = newest names k; after = Ok k } → Prints old new before after (newest names k) → Played part old new before after k
shown_played names part k old new before after is f = record {
  ends = ap (λ (p : Part). p.after) is;
  prints = subst (Prints old new before after) (sym (ap (λ (p : Part). p.text) is)) f;
}

pub shown_unwritten : (names : List (List ℕ)) (part : Part) (k : Journal) (old new : Option (List ℕ)) (before after : List ℕ) (fault : PlayFault)
    → part ≡ record { text = newest names k; after = Ok k } → ((why : ScriptFault) → fault ≡ Stopped why → ⊥)
    → AppendsFront old new (before ++ newest names k) → Plays part old new before after k (Err fault)
shown_unwritten names part k old new before after fault is n f =
    unwritten_as part old new before after k fault n (subst (λ (l : List ℕ). AppendsFront old new (before ++ l)) (sym (ap (λ (p : Part). p.text) is)) f)

-- the run stops, and nothing is printed
pub stops : (part : Part) (why : ScriptFault) (old : Option (List ℕ)) (before : List ℕ) → part ≡ record { text = []; after = Err why }
    → (part.after ≡ Err why) × Prints old old before before part.text
stops part why old before is = (
  ap (λ (p : Part). p.after) is,
  subst (Prints old old before before) (sym (ap (λ (p : Part). p.text) is)) (prints_nothing old before),
)

-- ---- a command, or a tick

pub given_is : (t : Plan) (j k : Journal) (m : ModuleId) (input : Input) (n : ℕ) → AddsStep j k m input n → IsRun t k
    → given t j m input ≡ record { text = newest (names_of t) k; after = Ok k }
given_is t j k m input n a run = ap (shown (names_of t)) (added_next t j k m input n a run)

-- there is no step, but out of memory
no_given : (t : Plan) (j : Journal) (m : ModuleId) (input : Input) (event : Event) (fault : WorldFault) → event_of j input ≡ Some event
    → IsFeedFault t j m.0 event fault → (fault ≡ faults.NoMemory → ⊥) → next t j m input ≡ None
no_given t j m input event faults.NoModule is h n = no_module_next t j m input (past_get t.modules m.0 h)
no_given t j m input event faults.NoFrame is h n = absurd h
no_given t j m input event (faults.Step full) is h n = no_next t j m input event is h
no_given t j m input event faults.NoMemory is h n = absurd (n refl)

pub given_none : (t : Plan) (j : Journal) (m : ModuleId) (input : Input) (event : Event) (fault : WorldFault) → event_of j input ≡ Some event
    → IsFeedFault t j m.0 event fault → (fault ≡ faults.NoMemory → ⊥) → given t j m input ≡ record { text = []; after = Err ClockFull }
given_none t j m input event fault is h n = ap (shown (names_of t)) (no_given t j m input event fault is h n)

-- ---- a frame

waits_true : (t : Plan) (j : Journal) (f : FrameName) → IsWaiting t j f → waits t j f ≡ true
waits_true t j f w = rw (w.sent, w.leads, w.fresh) refl

by_names : (t : Plan) (j : Journal) (f : FrameName) (flight : Flight) (there : Way) (b : Bool) → frame_at j f ≡ Some flight → across t flight.way ≡ Some there
    → is_named j f ≡ b → (IsWaiting t j f → ⊥) → waits t j f ≡ false
by_names t j f flight there true sent leads named n = rw (sent, leads, named) refl
by_names t j f flight there false sent leads named n = absurd (n (record { flight = flight; there = there; sent = sent; leads = leads; fresh = named }))

by_ways : (t : Plan) (j : Journal) (f : FrameName) (flight : Flight) (o : Option Way) → frame_at j f ≡ Some flight → across t flight.way ≡ o
    → (IsWaiting t j f → ⊥) → waits t j f ≡ false
by_ways t j f flight None sent leads n = rw (sent, leads) refl
by_ways t j f flight (Some there) sent leads n = by_names t j f flight there (is_named j f) sent leads refl n

by_flights : (t : Plan) (j : Journal) (f : FrameName) (o : Option Flight) → frame_at j f ≡ o → (IsWaiting t j f → ⊥) → waits t j f ≡ false
by_flights t j f None sent n = rw sent refl
by_flights t j f (Some flight) sent n = by_ways t j f flight (across t flight.way) sent refl n

no_frame : (t : Plan) (j : Journal) (f : FrameName) (fault : WorldFault) → IsFrameFault t j f fault → (fault ≡ faults.NoMemory → ⊥) → waits t j f ≡ false
no_frame t j f faults.NoModule h n = absurd h
no_frame t j f faults.NoFrame h n = by_flights t j f (frame_at j f) refl h
no_frame t j f (faults.Step full) h n = absurd h
no_frame t j f faults.NoMemory h n = absurd (n refl)

pub brought_none : (t : Plan) (j : Journal) (f : FrameName) (fault : WorldFault) → IsFrameFault t j f fault → (fault ≡ faults.NoMemory → ⊥)
    → brought t j f ≡ record { text = []; after = Err NoFrame }
brought_none t j f fault h n = ap (λ b. if_waits b (shown (names_of t) (delivered t j f))) (no_frame t j f fault h n)

pub lost_none : (t : Plan) (j : Journal) (f : FrameName) (fault : WorldFault) → IsFrameFault t j f fault → (fault ≡ faults.NoMemory → ⊥)
    → lost t j f ≡ record { text = []; after = Err NoFrame }
lost_none t j f fault h n = ap (λ b. if_waits b (shown (names_of t) (Some (Lost f ∷ j)))) (no_frame t j f fault h n)

pub brought_is : (t : Plan) (j k : Journal) (f : FrameName) (n : ℕ) → AddsArrival j k f n → IsRun t k
    → brought t j f ≡ record { text = newest (names_of t) k; after = Ok k }
brought_is t j k f n arrives run =
    let a = arrives.adds in
    let step : IsRun t j × IsStepAt t j arrives.at.0 (inputs.Frame arrives.port arrives.from f) a.outputs = subst (IsRun t) a.is run in
    let there : delivered t j f ≡ Some k =
    arrival_is_delivered t j arrives.at arrives.port arrives.from f a.outputs step.1 ∙ ap (λ (x : Journal). Some x) (sym a.is) in
    ap (λ b. if_waits b (shown (names_of t) (delivered t j f))) (waits_true t j f step.1.given.waits) ∙ ap (shown (names_of t)) there

pub lost_is : (t : Plan) (j k : Journal) (f : FrameName) (n : ℕ) → AddsLoss j k f n → IsRun t k
    → lost t j f ≡ record { text = newest (names_of t) k; after = Ok k }
lost_is t j k f n a run =
    let step : IsRun t j × IsWaiting t j f = subst (IsRun t) a.is run in
    ap (λ b. if_waits b (shown (names_of t) (Some (Lost f ∷ j)))) (waits_true t j f step.1) ∙ ap (λ (x : Journal). shown (names_of t) (Some x)) (sym a.is)

-- ---- tables

one_less : (n m : ℕ) → n + 1 ≡ m → n ≡ m - 1
one_less n m e = omega (e, arith)

shows_tables : (s : State) (tables : Tables) → ShowsState s tables → tables ≡ tables_of s
shows_tables s tables h =
    let id = one_less tables.last_id s.hops.next h.last_id in
    let number = one_less tables.last_number s.pendings.next h.last_number in
    λ i. record {
      now = h.now i;
      last_id = id i;
      last_number = number i;
      pendings = h.pendings i;
      hops = h.hops i;
      assemblies = h.assemblies i;
      ops = h.ops i;
    }

-- what is shown of a module is what the definition prints
pub tabled_is : (t : Plan) (j : Journal) (m : ModuleId) (tables : Tables) → IsShownAt t j m.0 tables
    → tabled t j m ≡ record { text = tables_text (name_of (names_of t) m.0) tables; after = Ok j }
tabled_is t j m tables h =
    ap (λ (o : Option ModuleSettings). record { text = tables_in t j m o; after = Ok j }) h.is_module
    ∙ ap (λ (x : Tables). record { text = tables_text (name_of (names_of t) m.0) x; after = Ok j })
    (sym (shows_tables (state_in h.config m.0 j) tables h.shows))

pub tabled_none : (t : Plan) (j : Journal) (m : ModuleId) → length t.modules ≤ m.0 → tabled t j m ≡ record { text = []; after = Ok j }
tabled_none t j m h = ap (λ (o : Option ModuleSettings). record { text = tables_in t j m o; after = Ok j }) (past_get t.modules m.0 h)

-- a text that belongs to no entry was gathered, and may have been written
pub text_played : (part : Part) (text : List ℕ) (j : Journal) (old new : Option (List ℕ)) (before mid after : List ℕ)
    → part ≡ record { text = text; after = Ok j }
    → mid ≡ before ++ text → Prints old new mid after [] → Played part old new before after j
text_played part text j old new before mid after is e f = record {
  ends = ap (λ (p : Part). p.after) is;
  prints = subst (Prints old new before after) (append-nil text ∙ sym (ap (λ (p : Part). p.text) is))
      (prints_then old old new before mid after text [] (prints_more old old before before mid [] text (prints_nothing old before) e) f);
}

pub text_unwritten : (part : Part) (text : List ℕ) (j : Journal) (old new : Option (List ℕ)) (before mid : List ℕ) → part ≡ record { text = text; after = Ok j }
    → mid ≡ before ++ text → AppendsFront old new mid → AppendsFront old new (before ++ part.text)
text_unwritten part text j old new before mid is e f =
    subst (λ (l : List ℕ). AppendsFront old new (before ++ l)) (sym (ap (λ (p : Part). p.text) is)) (subst (AppendsFront old new) e f)

-- nothing is printed
pub none_played : (part : Part) (j : Journal) (old : Option (List ℕ)) (before : List ℕ) → part ≡ record { text = []; after = Ok j }
    → Played part old old before before j
none_played part j old before is = record {
  ends = ap (λ (p : Part). p.after) is;
  prints = subst (Prints old old before before) (sym (ap (λ (p : Part). p.text) is)) (prints_nothing old before);
}
