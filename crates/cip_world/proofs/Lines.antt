-- A datum goes from entry to entry along one line: each arrival of a datum gives one datum at most, and each frame arrives once.
use Rattle.std.proofs.Common.{◌≡◌, ℕ, zero, suc, ◌≤◌, Bool, true, false, ◌||◌, List, [], ◌∷◌, Some, refl, sym, ap, subst, ◌∙◌, ◌⊎◌, inl, inr, arith, length}
use Rattle.std.specs.Prelude.{slice_get}
use Rattle.std.proofs.lemmas.Bool.{or_right}
use Rattle.cip_base.specs.declared.numbers.ModuleId.{ModuleId}
use Rattle.cip_config.specs.declared.config.ModuleSettings.{ModuleSettings}
use Rattle.cip_event.specs.declared.event.Body.{Body}
use Rattle.cip_event.specs.declared.event.Body.TheVariants as bodies
use Rattle.cip_event.specs.declared.event.Command.TheVariants as commands
use Rattle.cip_event.specs.declared.event.Event.{Event}
use Rattle.cip_event.specs.declared.event.Event.TheVariants as events
use Rattle.cip_event.specs.declared.event.Output.{Output}
use Rattle.cip_laws.specs.Outputs.{is_data, is_datum, one_datum}
use Rattle.cip_routing.specs.State.{State}
use Rattle.cip_routing.specs.Table.{table_step}
use Rattle.cip_laws.specs.Weights.{mark, weight_in}
use Rattle.cip_laws.specs.Turns.{Has}
use Rattle.cip_laws.proofs.DataOnce.{frame_once, enter_once}
use Rattle.cip_laws.proofs.Turns.{turned}
use Rattle.cip_laws.proofs.Weighing.{one_place}
use Rattle.cip_chassis.specs.Plan.{Plan}
use Rattle.cip_world.specs.declared.journal.Entry.{Entry}
use Rattle.cip_world.specs.declared.journal.Entry.TheVariants.{Step}
use Rattle.cip_event.specs.declared.frame.FrameName.{FrameName}
use Rattle.cip_world.specs.declared.journal.Input.{Input}
use Rattle.cip_world.specs.declared.journal.Input.TheVariants as inputs
use Rattle.cip_world.specs.Journals.{Journal, Flight, entry_at, frame_at, names, is_named}
use Rattle.cip_world.specs.Runs.{IsArrival, IsRun, state_in}
use Rattle.cip_world.proofs.Arrivals.{same_self, name_eq}
use Rattle.cip_world.proofs.Frames.{out_of, has_at}
use Rattle.cip_world.proofs.Mirrored.{one_of}
use Rattle.cip_world.proofs.Moments.{at_number, number_at, sent_at, before_that, run_older}
use Rattle.cip_world.proofs.Rooted.{frame_later, entry_cases}

-- the frame arrived in entry k
pub record Brings (j : Journal) (k : ℕ) (f : FrameName) : Type 0 where
  pub at : ModuleId
  pub port : ℕ
  pub from : List ℕ
  pub outs : List Output
  pub is : entry_at j k ≡ Some (Step at (inputs.Frame port from f) outs)

-- the frame holds a datum
pub record IsDatum (j : Journal) (f : FrameName) : Type 0 where
  pub flight : Flight
  pub sent : frame_at j f ≡ Some flight
  pub data_ : is_data flight.body ≡ true

-- ---- a frame arrives once

named_entry : (j : Journal) (k : ℕ) (f : FrameName) → Brings j k f → is_named j f ≡ true
named_entry [] k f b = let no = b.is in absurd (cc)
named_entry (x ∷ j) k f b =
    elim (entry_cases x j k (Step b.at (inputs.Frame b.port b.from f) b.outs) b.is) as (λ _. names f x || is_named j f ≡ true) [
      | inl here ↦ ap (λ (e : Entry). names f e || is_named j f) here.1 ∙ ap (λ (c : Bool). c || is_named j f) (same_self f)
      | inr old ↦ or_right (names f x) (is_named j f) (named_entry j k f (record { at = b.at; port = b.port; from = b.from; outs = b.outs; is = old }))
    ]

-- what arrives now did not arrive before
fresh_now : (t : Plan) (e : Entry) (j : Journal) (k : ℕ) (f : FrameName) (b : Brings (e ∷ j) k f) → IsRun t (e ∷ j)
    → e ≡ Step b.at (inputs.Frame b.port b.from f) b.outs → is_named j f ≡ false
fresh_now t e j k f b run is =
    let now : IsRun t (Step b.at (inputs.Frame b.port b.from f) b.outs ∷ j) = subst (λ (x : Entry). IsRun t (x ∷ j)) is run in now.1.given.waits.fresh

older_brings : (j : Journal) (k : ℕ) (f : FrameName) (at : ModuleId) (port : ℕ) (from : List ℕ) (outs : List Output)
    → entry_at j k ≡ Some (Step at (inputs.Frame port from f) outs) → Brings j k f
older_brings j k f at port from outs is = record { at = at; port = port; from = from; outs = outs; is = is }

pub arrives_once : (t : Plan) (j : Journal) (i k : ℕ) (f : FrameName) → IsRun t j → Brings j i f → Brings j k f → i ≡ k
arrives_once t [] i k f run a b = let no = a.is in absurd (cc)
arrives_once t (e ∷ j) i k f run a b =
    by_cases (entry_cases e j i (Step a.at (inputs.Frame a.port a.from f) a.outs) a.is)
    (entry_cases e j k (Step b.at (inputs.Frame b.port b.from f) b.outs) b.is)
    (λ x y. arrives_once t j i k f run.0 x y)
  where
    by_cases : ((i ≡ length j) × (e ≡ Step a.at (inputs.Frame a.port a.from f) a.outs)) ⊎
        (entry_at j i ≡ Some (Step a.at (inputs.Frame a.port a.from f) a.outs))
        → ((k ≡ length j) × (e ≡ Step b.at (inputs.Frame b.port b.from f) b.outs)) ⊎ (entry_at j k ≡ Some (Step b.at (inputs.Frame b.port b.from f) b.outs))
        → (Brings j i f → Brings j k f → i ≡ k) → i ≡ k
    by_cases (inl here) (inl too) rest = here.0 ∙ sym too.0
    by_cases (inl here) (inr old) rest =
        let no : false ≡ true = sym (fresh_now t e j i f a run here.1) ∙ named_entry j k f (older_brings j k f b.at b.port b.from b.outs old) in absurd (cc)
    by_cases (inr old) (inl too) rest =
        let no : false ≡ true = sym (fresh_now t e j k f b run too.1) ∙ named_entry j i f (older_brings j i f a.at a.port a.from a.outs old) in absurd (cc)
    by_cases (inr old) (inr too) rest = rest (older_brings j i f a.at a.port a.from a.outs old) (older_brings j k f b.at b.port b.from b.outs too)

-- ---- one datum of an entry

-- entry k is a step with these outputs, of which one is a datum at most
pub record OneDatum (j : Journal) (k : ℕ) : Type 0 where
  pub at : ModuleId
  pub input : Input
  pub outs : List Output
  pub is : entry_at j k ≡ Some (Step at input outs)
  pub most : weight_in one_datum outs ≤ 1

-- the datum of a frame
pub record DatumBody (body : Body) : Type 0 where
  pub id : ℕ
  pub bytes : List ℕ
  pub is : body ≡ bodies.Data id bytes

pub datum_body : (body : Body) → is_data body ≡ true → DatumBody body
datum_body (bodies.Request number bytes) e = absurd (cc)
datum_body (bodies.Reply number bytes) e = absurd (cc)
datum_body (bodies.Data id bytes) e = record { id = id; bytes = bytes; is = refl }

flight_body : (x y : Flight) → Some x ≡ Some y → is_data y.body ≡ true → DatumBody x.body
flight_body x y e data_ = let same : x ≡ y = cc in datum_body x.body (ap (λ (z : Flight). is_data z.body) same ∙ data_)

frame_gives : (config : ModuleSettings) (s new : State) (event : Event) (port id : ℕ) (from bytes : List ℕ) (outs : List Output)
    → event ≡ events.Frame port from (bodies.Data id bytes)
    → table_step config s event ≡ Some (record { state = new; outputs = outs }) → weight_in one_datum outs ≤ 1
frame_gives config s new event port id from bytes outs event_is step =
    let turn = turned config s (events.Frame port from (bodies.Data id bytes)) new outs (ap (table_step config s) (sym event_is) ∙ step) in
    let most = frame_once config s port id from bytes turn.effects turn.decided in
    let same = ap (weight_in one_datum) turn.out in
    omega (arith, most, same)

enter_gives : (config : ModuleSettings) (s new : State) (event : Event) (of : ℕ) (bytes : List ℕ) (outs : List Output)
    → event ≡ events.Command (commands.Enter of bytes)
    → table_step config s event ≡ Some (record { state = new; outputs = outs }) → weight_in one_datum outs ≤ 1
enter_gives config s new event of bytes outs event_is step =
    let turn = turned config s (events.Command (commands.Enter of bytes)) new outs (ap (table_step config s) (sym event_is) ∙ step) in
    let most = enter_once config s of bytes turn.effects turn.decided in
    let same = ap (weight_in one_datum) turn.out in
    omega (arith, most, same)

-- the arrival of a datum gives one datum at most
pub arrival_gives : (t : Plan) (j : Journal) (k : ℕ) (f : FrameName) → IsRun t j → Brings j k f → IsDatum j f → OneDatum j k
arrival_gives t j k f run b d =
    let e = at_number j k (Step b.at (inputs.Frame b.port b.from f) b.outs) b.is in
    let now : IsRun t (Step b.at (inputs.Frame b.port b.from f) b.outs ∷ e.before) = run_older t
    (Step b.at (inputs.Frame b.port b.from f) b.outs ∷ e.before) j e.older run in
    let a : IsArrival t e.before f b.at.0 b.port b.from now.1.event = now.1.given in
    let both : Some a.waits.flight ≡ Some d.flight =
    sym (frame_later e.before j f a.waits.flight (before_that (Step b.at (inputs.Frame b.port b.from f) b.outs) e.before j e.older) a.waits.sent) ∙ d.sent in
    let body = flight_body a.waits.flight d.flight both d.data_ in
    record {
      at = b.at;
      input = inputs.Frame b.port b.from f;
      outs = b.outs;
      is = b.is;
      most = frame_gives now.1.config (state_in now.1.config b.at.0 e.before) now.1.new now.1.event b.port body.id b.from body.bytes b.outs
          (a.event_is ∙ ap (λ (x : Body). events.Frame b.port b.from x) body.is) now.1.step;
    }

-- so does an Enter
pub entered_gives : (t : Plan) (j : Journal) (k : ℕ) (at : ModuleId) (of : ℕ) (bytes : List ℕ) (outs : List Output) → IsRun t j
    → entry_at j k ≡ Some (Step at (inputs.Command (commands.Enter of bytes)) outs) → OneDatum j k
entered_gives t j k at of bytes outs run is =
    let e = at_number j k (Step at (inputs.Command (commands.Enter of bytes)) outs) is in
    let now : IsRun t (Step at (inputs.Command (commands.Enter of bytes)) outs ∷ e.before) =
    run_older t (Step at (inputs.Command (commands.Enter of bytes)) outs ∷ e.before) j e.older run in
    record {
      at = at;
      input = inputs.Command (commands.Enter of bytes);
      outs = outs;
      is = is;
      most = enter_gives now.1.config (state_in now.1.config at.0 e.before) now.1.new now.1.event of bytes outs now.1.given now.1.step;
    }

outs_same : (a b : ModuleId) (x y : Input) (o p : List Output) → Some (Step a x o) ≡ Some (Step b y p) → o ≡ p
outs_same a b x y o p e = cc

-- the place of a frame among the outputs of its entry
pub frame_place : (j : Journal) (k : ℕ) (at : ModuleId) (input : Input) (outs : List Output) → entry_at j k ≡ Some (Step at input outs)
    → (f : FrameName) (d : IsDatum j f) → f.entry ≡ k
    → slice_get outs f.output ≡ Some (out_of d.flight)
frame_place j k at input outs entry f d same =
    let s = sent_at j f d.flight d.sent in
    let is : Some (Step s.at s.input s.outs) ≡ Some (Step at input outs) =
    sym (number_at (Step s.at s.input s.outs) s.before j s.older) ∙ ap (entry_at j) (s.number ∙ same) ∙ entry in
    ap (λ (os : List Output). slice_get os f.output) (sym (outs_same s.at at s.input input s.outs outs is)) ∙ s.place

sent_place : (j : Journal) (k : ℕ) (one : OneDatum j k) (f : FrameName) (d : IsDatum j f) → f.entry ≡ k → slice_get one.outs f.output ≡ Some (out_of d.flight)
sent_place j k one f d same = frame_place j k one.at one.input one.outs one.is f d same

weighs : (x : Output) → is_datum x ≡ true → 1 ≤ one_datum x
weighs x e = let one = ap (λ (b : Bool). mark b) e in omega (arith, one)

-- two data of such an entry are one frame
pub one_frame_of : (j : Journal) (k : ℕ) → OneDatum j k → (f g : FrameName) → IsDatum j f → IsDatum j g → f.entry ≡ k → g.entry ≡ k → f ≡ g
one_frame_of j k one f g d e a b =
    name_eq f g (a ∙ sym b)
    (one_place one_datum one.outs f.output g.output (out_of d.flight) (out_of e.flight) one.most (weighs (out_of d.flight) d.data_)
    (weighs (out_of e.flight) e.data_)
    (sent_place j k one f d a) (sent_place j k one g e b))

-- ---- a line

-- the datum came to entry k behind so many other entries, from this frame on
abbrev pub Line : Journal → FrameName → ℕ → ℕ → Type 0
Line j first zero k = IsDatum j first × Brings j k first
Line j first (suc n) k = (i : ℕ) × (f : FrameName) × Line j first n i × (f.entry ≡ i) × IsDatum j f × Brings j k f

pub line_gives : (t : Plan) (j : Journal) (first : FrameName) (n k : ℕ) → IsRun t j → Line j first n k → OneDatum j k
line_gives t j first zero k run l = arrival_gives t j k first run l.1 l.0
line_gives t j first (suc n) k run l = arrival_gives t j k l.1 run l.5 l.4

-- it is of data
pub line_datum : (j : Journal) (first : FrameName) (n k : ℕ) → Line j first n k → IsDatum j first
line_datum j first zero k l = l.0
line_datum j first (suc n) k l = line_datum j first n l.0 l.2

-- it does not branch
pub line_once : (t : Plan) (j : Journal) (first : FrameName) (n i k : ℕ) → IsRun t j → Line j first n i → Line j first n k → i ≡ k
line_once t j first zero i k run a b = arrives_once t j i k first run a.1 b.1
line_once t j first (suc n) i k run a b =
    let before : a.0 ≡ b.0 = line_once t j first n a.0 b.0 run a.2 b.2 in
    let same : a.1 ≡ b.1 = one_frame_of j a.0 (line_gives t j first n a.0 run a.2) a.1 b.1 a.4 b.4 a.3 (b.3 ∙ sym before) in
    arrives_once t j i k a.1 run a.5 (subst (λ (f : FrameName). Brings j k f) (sym same) b.5)

-- ---- its end

-- the datum of entry k goes on by no link
abbrev pub IsEnd : Journal → ℕ → Type 0
IsEnd j k = (f : FrameName) → IsDatum j f → f.entry ≡ k → ⊥

-- so many and one more
abbrev beyond : ℕ → ℕ → ℕ
beyond zero n = suc n
beyond (suc d) n = suc (beyond d n)

beyond_suc : (d n : ℕ) → beyond d (suc n) ≡ suc (beyond d n)
beyond_suc zero n = refl
beyond_suc (suc d) n = ap (λ (x : ℕ). suc x) (beyond_suc d n)

beyond_zero : (d : ℕ) → suc d ≡ beyond d zero
beyond_zero zero = refl
beyond_zero (suc d) = ap (λ (x : ℕ). suc x) (beyond_zero d)

-- an entry farther on has one before it, which sent a datum
ancestor : (j : Journal) (first : FrameName) (n d k : ℕ) → Line j first (beyond d n) k
    → (i : ℕ) × (f : FrameName) × Line j first n i × (f.entry ≡ i) × IsDatum j f
ancestor j first n zero k l = (l.0, l.1, l.2, l.3, l.4)
ancestor j first n (suc d) k l = ancestor j first n d l.0 l.2

farther : (t : Plan) (j : Journal) (first : FrameName) (n d i k : ℕ) → IsRun t j → Line j first n i → IsEnd j i → Line j first (beyond d n) k → ⊥
farther t j first n d i k run a end b =
    let x = ancestor j first n d k b in end x.1 x.4 (x.3 ∙ line_once t j first n x.0 i run x.2 a)

data Compare (n m : ℕ) : Type 0 where
  Equal : n ≡ m → Compare n m
  Below : (d : ℕ) → m ≡ beyond d n → Compare n m
  Above : (d : ℕ) → n ≡ beyond d m → Compare n m

compare_suc : (n m : ℕ) → Compare n m → Compare (suc n) (suc m)
compare_suc n m (Equal e) = Equal (ap (λ (x : ℕ). suc x) e)
compare_suc n m (Below d e) = Below d (ap (λ (x : ℕ). suc x) e ∙ sym (beyond_suc d n))
compare_suc n m (Above d e) = Above d (ap (λ (x : ℕ). suc x) e ∙ sym (beyond_suc d m))

compare : (n m : ℕ) → Compare n m
compare zero zero = Equal refl
compare zero (suc m) = Below m (beyond_zero m)
compare (suc n) zero = Above n (beyond_zero n)
compare (suc n) (suc m) = compare_suc n m (compare n m)

-- it has one end
pub ends_once : (t : Plan) (j : Journal) (first : FrameName) (n m i k : ℕ) → IsRun t j → Line j first n i → Line j first m k → IsEnd j i → IsEnd j k → i ≡ k
ends_once t j first n m i k run a b end too = by_order (compare n m)
  where
    by_order : Compare n m → i ≡ k
    by_order (Equal e) = line_once t j first m i k run (subst (λ (x : ℕ). Line j first x i) e a) b
    by_order (Below d e) = absurd (farther t j first n d i k run a end (subst (λ (x : ℕ). Line j first x k) e b))
    by_order (Above d e) = absurd (farther t j first m d k i run b too (subst (λ (x : ℕ). Line j first x i) e a))

-- where a datum that is no frame is given, no frame is
pub is_end : (j : Journal) (k : ℕ) (one : OneDatum j k) (x : Output) → Has one.outs x → is_datum x ≡ true → ((y : Flight) → x ≡ out_of y → ⊥) → IsEnd j k
is_end j k one x has data_ unsent f d same =
    unsent d.flight (one_of one_datum one.outs x (out_of d.flight) one.most (weighs x data_) (weighs (out_of d.flight) d.data_) has
    (has_at one.outs f.output (out_of d.flight) (sent_place j k one f d same)))
