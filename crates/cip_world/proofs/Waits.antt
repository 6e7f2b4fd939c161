-- The list of the frames that wait: it rises, an entry takes out of it the frame that it names and adds those that it sends,
-- and a frame is in it just where it waits.
use Rattle.std.proofs.Common.{◌≡◌, ℕ, zero, suc, ◌+◌, ◌<◌, ◌≤◌, Bool, true, false, cond, not, ◌&&◌, ◌||◌, List, [], ◌∷◌, ◌++◌, length, Option, Some, None, refl}
use Rattle.std.proofs.Common.{sym, ap, subst, ◌∙◌, arith, filter, get_or}
use Rattle.std.specs.Prelude.{slice_get, is_some, drop}
use Rattle.std.specs.List.{AllByRecursion, list_any}
use Rattle.std.specs.List.Sorted.{IsStrictlySortedBy}
use Rattle.std.specs.Ordering.{nat_cmp, ordering_then}
use Rattle.std.specs.Cmp.{nat_cmp_is}
use Rattle.std.specs.declared.cmp.Ordering.TheVariants.{Less, Equal}
use Rattle.std.proofs.lemmas.Bool.{and_parts, eq-eqb}
use Rattle.std.proofs.lemmas.List.{drop_more}
use Rattle.std.proofs.lemmas.List.Elements.{filter-append}
use Rattle.std.proofs.lemmas.List.Folds.{list_any-append}
use Rattle.std.proofs.lemmas.List.Kept.{IsStrictlySortedBy-filter}
use Rattle.std.proofs.lemmas.Map.Views.{any-filter_same}
use Rattle.cip_event.specs.declared.event.Output.{Output}
use Rattle.cip_chassis.specs.Plan.{Plan}
use Rattle.cip_chassis.specs.Nodes.{Way, across as goes}
use Rattle.cip_event.specs.declared.frame.FrameName.{FrameName}
use Rattle.cip_world.specs.declared.journal.Input.TheVariants as inputs
use Rattle.cip_world.specs.declared.journal.Entry.{Entry}
use Rattle.cip_world.specs.declared.journal.Entry.TheVariants.{Step, Lost}
use Rattle.cip_world.specs.Journals.{Journal, Flight, flight_of, sent_by, frame_at, same_name, named_by, is_that, names, is_named}
use Rattle.cip_world.specs.Names.{name_cmp, AreRising, AllBefore}
use Rattle.cip_world.specs.Runs.{IsWaiting, IsNext, IsRun}
use Rattle.cip_world.specs.Waiting.{arrives, or_none, frames_of, frames_in, frames, waiting}
use Rattle.cip_world.proofs.Frames.{at_entry}
use Rattle.cip_world.proofs.Named.{name_eq, same_self}

-- ---- names of one entry

-- the name is of entry k, at place i or later
abbrev pub IsFrom : ℕ → ℕ → FrameName → Type 0
IsFrom k i f = (f.entry ≡ k) × (i ≤ f.output)

from_later : (k i : ℕ) (fs : List FrameName) → AllByRecursion (IsFrom k (i + 1)) fs → AllByRecursion (IsFrom k i) fs
from_later k i [] h = tt
from_later k i (f ∷ fs) h = let low = h.0.1 in ((h.0.0, omega (arith, low)), from_later k i fs h.1)

or_none_all : (P : FrameName → Type 0) (b : Bool) (f : FrameName) (fs : List FrameName) → P f → AllByRecursion P fs → AllByRecursion P (or_none b f fs)
or_none_all P true f fs p h = (p, h)
or_none_all P false f fs p h = h

from_all : (t : Plan) (m k i : ℕ) (outs : List Output) → AllByRecursion (IsFrom k i) (frames_of t m k i outs)
from_all t m k i [] = tt
from_all t m k i (o ∷ outs) =
    or_none_all (IsFrom k i) (arrives t (flight_of m (Some o))) (record { entry = k; output = i }) (frames_of t m k (i + 1) outs) (refl, omega arith)
    (from_later k i (frames_of t m k (i + 1) outs) (from_all t m k (i + 1) outs))

pub from_in : (t : Plan) (k : ℕ) (e : Entry) → AllByRecursion (IsFrom k 0) (frames_in t k e)
from_in t k (Step m input outputs) = from_all t m.0 k 0 outputs
from_in t k (Lost frame) = tt

-- ---- the list rises

less_is : (x y : ℕ) → x < y → nat_cmp x y ≡ Less
less_is x y l = sym (nat_cmp_is x y Less l)

same_is : (x y : ℕ) → x ≡ y → nat_cmp x y ≡ Equal
same_is x y e = sym (nat_cmp_is x y Equal e)

cmp_entry : (f g : FrameName) → f.entry < g.entry → name_cmp f g ≡ Less
cmp_entry f g l = ap (λ o. ordering_then o (nat_cmp f.output g.output)) (less_is f.entry g.entry l)

cmp_output : (f g : FrameName) → f.entry ≡ g.entry → f.output < g.output → name_cmp f g ≡ Less
cmp_output f g e l =
    ap (λ o. ordering_then o (nat_cmp f.output g.output)) (same_is f.entry g.entry e) ∙ less_is f.output g.output l

rise_all : (k i : ℕ) (fs : List FrameName) → AllByRecursion (IsFrom k (i + 1)) fs
    → AllByRecursion (λ g. name_cmp (record { entry = k; output = i }) g ≡ Less) fs
rise_all k i [] h = tt
rise_all k i (f ∷ fs) h = let low = h.0.1 in (cmp_output (record { entry = k; output = i }) f (sym h.0.0) (omega (arith, low)), rise_all k i fs h.1)

or_none_rise : (b : Bool) (f : FrameName) (fs : List FrameName) → AllByRecursion (λ g. name_cmp f g ≡ Less) fs → AreRising fs → AreRising (or_none b f fs)
unfolding IsStrictlySortedBy
or_none_rise true f fs a h = (a, h)
or_none_rise false f fs a h = h

of_rise : (t : Plan) (m k i : ℕ) (outs : List Output) → AreRising (frames_of t m k i outs)
unfolding IsStrictlySortedBy
of_rise t m k i [] = tt
of_rise t m k i (o ∷ outs) =
    or_none_rise (arrives t (flight_of m (Some o))) (record { entry = k; output = i }) (frames_of t m k (i + 1) outs)
    (rise_all k i (frames_of t m k (i + 1) outs) (from_all t m k (i + 1) outs)) (of_rise t m k (i + 1) outs)

in_rise : (t : Plan) (k : ℕ) (e : Entry) → AreRising (frames_in t k e)
unfolding IsStrictlySortedBy
in_rise t k (Step m input outputs) = of_rise t m.0 k 0 outputs
in_rise t k (Lost frame) = tt

all_append : (P : FrameName → Type 0) (fs gs : List FrameName) → AllByRecursion P fs → AllByRecursion P gs → AllByRecursion P (fs ++ gs)
all_append P [] gs h k = k
all_append P (f ∷ fs) gs h k = (h.0, all_append P fs gs h.1 k)

-- the entries of the names are below k
abbrev IsBelow : ℕ → FrameName → Type 0
IsBelow k f = f.entry < k

below_from : (k : ℕ) (f : FrameName) (gs : List FrameName) → f.entry < k → AllByRecursion (IsFrom k 0) gs → AllByRecursion (λ g. name_cmp f g ≡ Less) gs
below_from k f [] l h = tt
below_from k f (g ∷ gs) l h = let is = h.0.0 in (cmp_entry f g (omega (arith, l, is)), below_from k f gs l h.1)

append_rise : (k : ℕ) (fs gs : List FrameName) → AreRising fs → AllByRecursion (IsBelow k) fs → AreRising gs
    → AllByRecursion (IsFrom k 0) gs → AreRising (fs ++ gs)
unfolding IsStrictlySortedBy
append_rise k [] gs r b s h = s
append_rise k (f ∷ fs) gs r b s h =
    (all_append (λ g. name_cmp f g ≡ Less) fs gs r.0 (below_from k f gs b.0 h), append_rise k fs gs r.1 b.1 s h)

below_later : (k : ℕ) (fs : List FrameName) → AllByRecursion (IsBelow k) fs → AllByRecursion (IsBelow (suc k)) fs
below_later k [] h = tt
below_later k (f ∷ fs) h = let l = h.0 in (omega (arith, l), below_later k fs h.1)

from_below : (k : ℕ) (fs : List FrameName) → AllByRecursion (IsFrom k 0) fs → AllByRecursion (IsBelow (suc k)) fs
from_below k [] h = tt
from_below k (f ∷ fs) h = let is = h.0.0 in (omega (arith, is), from_below k fs h.1)

frames_below : (t : Plan) (j : Journal) → AllByRecursion (IsBelow (length j)) (frames t j)
frames_below t [] = tt
frames_below t (e ∷ j) =
    all_append (IsBelow (suc (length j))) (frames t j) (frames_in t (length j) e) (below_later (length j) (frames t j) (frames_below t j))
    (from_below (length j) (frames_in t (length j) e) (from_in t (length j) e))

frames_rise : (t : Plan) (j : Journal) → AreRising (frames t j)
unfolding IsStrictlySortedBy
frames_rise t [] = tt
frames_rise t (e ∷ j) =
    append_rise (length j) (frames t j) (frames_in t (length j) e) (frames_rise t j) (frames_below t j) (in_rise t (length j) e) (from_in t (length j) e)

pub waiting_rise : (t : Plan) (j : Journal) → AreRising (waiting t j)
waiting_rise t j = IsStrictlySortedBy-filter name_cmp (λ f. not (is_named j f)) (frames t j) (frames_rise t j)

-- a name in the middle of a rising list is above those before it
pub before_mid : (fs : List FrameName) (f : FrameName) (gs : List FrameName) → AreRising (fs ++ f ∷ gs) → AllBefore f fs
unfolding IsStrictlySortedBy
before_mid [] f gs h = tt
before_mid (x ∷ fs) f gs h = (last_of fs h.0, before_mid fs f gs h.1)
  where
    last_of : (ys : List FrameName) → AllByRecursion (λ g. name_cmp x g ≡ Less) (ys ++ f ∷ gs) → name_cmp x f ≡ Less
    last_of [] k = k.0
    last_of (y ∷ ys) k = last_of ys k.1

-- ---- which frame is in it

abbrev is_it : FrameName → FrameName → Bool
is_it f g = same_name g f

not_it : (f g : FrameName) → (g ≡ f → ⊥) → is_it f g ≡ false
not_it f g n = elim (same_name g f) as (λ b. same_name g f ≡ b → b ≡ false) [ true ↦ λ t. absurd (n (name_eq g f t)) | false ↦ λ t. refl ] refl

no_name : (f : FrameName) (gs : List FrameName) → AllByRecursion (λ g. g ≡ f → ⊥) gs → list_any (is_it f) gs ≡ false
no_name f [] h = refl
no_name f (g ∷ gs) h = ap (λ b. b || list_any (is_it f) gs) (not_it f g h.0) ∙ no_name f gs h.1

other_entry : (k i : ℕ) (f : FrameName) (gs : List FrameName) → (f.entry ≡ k → ⊥) → AllByRecursion (IsFrom k i) gs → AllByRecursion (λ g. g ≡ f → ⊥) gs
other_entry k i f [] n h = tt
other_entry k i f (g ∷ gs) n h = ((λ e. n (ap (λ (x : FrameName). x.entry) (sym e) ∙ h.0.0)), other_entry k i f gs n h.1)

later_output : (k i : ℕ) (f : FrameName) (gs : List FrameName) → f.output < i → AllByRecursion (IsFrom k i) gs → AllByRecursion (λ g. g ≡ f → ⊥) gs
later_output k i f [] l h = tt
later_output k i f (g ∷ gs) l h =
    ((λ e. let low = h.0.1 in let same = ap (λ (x : FrameName). x.output) e in absurd (omega (arith, l, low, same))), later_output k i f gs l h.1)

later_entry : (k : ℕ) (f : FrameName) (gs : List FrameName) → k ≤ f.entry → AllByRecursion (IsBelow k) gs → AllByRecursion (λ g. g ≡ f → ⊥) gs
later_entry k f [] l h = tt
later_entry k f (g ∷ gs) l h =
    ((λ e. let low = h.0 in let same = ap (λ (x : FrameName). x.entry) e in absurd (omega (arith, l, low, same))), later_entry k f gs l h.1)

or_none_any : (b : Bool) (f g : FrameName) (gs : List FrameName) → list_any (is_it f) (or_none b g gs) ≡ ((b && is_it f g) || list_any (is_it f) gs)
or_none_any true f g gs = refl
or_none_any false f g gs = refl

-- the output at this offset, where the name is of it
of_has : (t : Plan) (m k i : ℕ) (outs : List Output) (f : FrameName) (d : ℕ) → f.entry ≡ k → f.output ≡ i + d
    → list_any (is_it f) (frames_of t m k i outs) ≡ arrives t (flight_of m (slice_get outs d))
of_has t m k i [] f d e o = refl
of_has t m k i (x ∷ outs) f zero e o =
    let here : record { entry = k; output = i } ≡ f = λ z. record { entry = sym e z; output = (let same : i ≡ f.output = omega (arith, o) in same) z } in
    let is : is_it f (record { entry = k; output = i }) ≡ true = ap (is_it f) here ∙ same_self f in
    let none : list_any (is_it f) (frames_of t m k (i + 1) outs) ≡ false =
    no_name f (frames_of t m k (i + 1) outs) (later_output k (i + 1) f (frames_of t m k (i + 1) outs) (omega (arith, o)) (from_all t m k (i + 1) outs)) in
    or_none_any (arrives t (flight_of m (Some x))) f (record { entry = k; output = i }) (frames_of t m k (i + 1) outs)
    ∙ ap (λ b. (arrives t (flight_of m (Some x)) && b) || list_any (is_it f) (frames_of t m k (i + 1) outs)) is
    ∙ ap (λ b. (arrives t (flight_of m (Some x)) && true) || b) none ∙ simple (arrives t (flight_of m (Some x)))
  where
    simple : (b : Bool) → ((b && true) || false) ≡ b
    simple true = refl
    simple false = refl
of_has t m k i (x ∷ outs) f (suc d) e o =
    let apart : is_it f (record { entry = k; output = i }) ≡ false =
    not_it f (record { entry = k; output = i }) (λ h. let same = ap (λ (y : FrameName). y.output) h in absurd (omega (arith, o, same))) in
    or_none_any (arrives t (flight_of m (Some x))) f (record { entry = k; output = i }) (frames_of t m k (i + 1) outs)
    ∙ ap (λ b. (arrives t (flight_of m (Some x)) && b) || list_any (is_it f) (frames_of t m k (i + 1) outs)) apart
    ∙ simple (arrives t (flight_of m (Some x))) (list_any (is_it f) (frames_of t m k (i + 1) outs))
    ∙ of_has t m k (i + 1) outs f d e (omega (arith, o))
  where
    simple : (b c : Bool) → ((b && false) || c) ≡ c
    simple true c = refl
    simple false c = refl

in_has : (t : Plan) (k : ℕ) (e : Entry) (f : FrameName) → f.entry ≡ k → list_any (is_it f) (frames_in t k e) ≡ arrives t (sent_by (Some e) f.output)
in_has t k (Step m input outputs) f is = of_has t m.0 k 0 outputs f f.output is (omega arith)
in_has t k (Lost frame) f is = refl

frames_has : (t : Plan) (j : Journal) (f : FrameName) → list_any (is_it f) (frames t j) ≡ arrives t (frame_at j f)
frames_has t [] f = refl
frames_has t (e ∷ j) f =
    list_any-append (is_it f) (frames t j) (frames_in t (length j) e)
    ∙ at_entry e j f (λ x. (list_any (is_it f) (frames t j) || list_any (is_it f) (frames_in t (length j) e)) ≡ arrives t x)
    (λ same. ap (λ b. b || list_any (is_it f) (frames_in t (length j) e))
    (no_name f (frames t j) (later_entry (length j) f (frames t j) (omega (arith, same)) (frames_below t j)))
    ∙ in_has t (length j) e f same)
    (λ apart.
    let n : f.entry ≡ length j → ⊥ = λ same. let yes = eq-eqb f.entry (length j) same in cc in
    ap (λ b. list_any (is_it f) (frames t j) || b)
    (no_name f (frames_in t (length j) e) (other_entry (length j) 0 f (frames_in t (length j) e) n (from_in t (length j) e)))
    ∙ or_false (list_any (is_it f) (frames t j)) ∙ frames_has t j f)
  where
    or_false : (b : Bool) → (b || false) ≡ b
    or_false true = refl
    or_false false = refl

pub waiting_has : (t : Plan) (j : Journal) (f : FrameName) → list_any (λ g. same_name g f) (waiting t j) ≡ (not (is_named j f) && arrives t (frame_at j f))
waiting_has t j f =
    any-filter_same (is_it f) (λ g. not (is_named j g)) (not (is_named j f)) (λ g is. ap (λ (x : FrameName). not (is_named j x)) (name_eq g f is)) (frames t j)
    ∙ ap (λ b. not (is_named j f) && b) (frames_has t j f)

-- ---- it agrees with the relation

arrival_of : (t : Plan) (j : Journal) (f : FrameName) (o : Option Flight) → frame_at j f ≡ o → is_named j f ≡ false → arrives t o ≡ true → IsWaiting t j f
arrival_of t j f None e fresh h = absurd (cc)
arrival_of t j f (Some x) e fresh h = there_is (goes t x.way) refl h
  where
    there_is : (w : Option Way) → goes t x.way ≡ w → is_some w ≡ true → IsWaiting t j f
    there_is None g k = absurd (cc)
    there_is (Some there) g k = record { flight = x; there = there; sent = e; leads = g; fresh = fresh }

not_true : (b : Bool) → not b ≡ true → b ≡ false
not_true true h = cc
not_true false h = refl

-- what the list has waits
pub listed_waits : (t : Plan) (j : Journal) (f : FrameName) → list_any (λ g. same_name g f) (waiting t j) ≡ true → IsWaiting t j f
listed_waits t j f h =
    let both = and_parts (not (is_named j f)) (arrives t (frame_at j f)) (sym (waiting_has t j f) ∙ h) in
    arrival_of t j f (frame_at j f) refl (not_true (is_named j f) both.0) both.1

-- what waits is in the list
pub waits_listed : (t : Plan) (j : Journal) (f : FrameName) → IsWaiting t j f → list_any (λ g. same_name g f) (waiting t j) ≡ true
waits_listed t j f w =
    waiting_has t j f ∙ ap (λ b. not b && arrives t (frame_at j f)) w.fresh ∙ ap (arrives t) w.sent ∙ ap is_some w.leads

-- ---- what an entry does to it

pub frame_before : (j : Journal) (f : FrameName) (x : Flight) → frame_at j f ≡ Some x → f.entry < length j
frame_before [] f x h = absurd (cc)
frame_before (e ∷ j) f x h =
    at_entry e j f (λ y. y ≡ Some x → f.entry < suc (length j)) (λ same here. omega (arith, same))
    (λ apart old. let l = frame_before j f x old in omega (arith, l)) h

next_waits : (t : Plan) (j : Journal) (e : Entry) (f : FrameName) → IsNext t j e → named_by e ≡ Some f → IsWaiting t j f
next_waits t j (Step m (inputs.Command command) outputs) f n h = absurd (cc)
next_waits t j (Step m (inputs.Tick ms) outputs) f n h = absurd (cc)
next_waits t j (Step m (inputs.Frame port from name) outputs) f n h =
    let given : IsWaiting t j name = n.given.waits in
    let same : name ≡ f = cc in subst (IsWaiting t j) same given
next_waits t j (Lost name) f n h = let same : name ≡ f = cc in subst (IsWaiting t j) same n

named_now : (t : Plan) (j : Journal) (e : Entry) (f : FrameName) → IsNext t j e → names f e ≡ true → f.entry < length j
named_now t j e f n h = by (named_by e) refl h
  where
    by : (o : Option FrameName) → named_by e ≡ o → is_that f o ≡ true → f.entry < length j
    by None k is = absurd (cc)
    by (Some g) k is =
        let w = next_waits t j e g n k in
        let l = frame_before j g w.flight w.sent in
        subst (λ (x : FrameName). x.entry < length j) (sym (name_eq f g is)) l

named_either : (t : Plan) (j : Journal) (e : Entry) (f : FrameName) → IsNext t j e → (is_named j f ≡ true → f.entry < length j)
    → (b : Bool) → names f e ≡ b → (b || is_named j f) ≡ true
    → f.entry < suc (length j)
named_either t j e f n old true k is = let l = named_now t j e f n k in omega (arith, l)
named_either t j e f n old false k is = let l = old is in omega (arith, l)

pub named_before : (t : Plan) (j : Journal) (f : FrameName) → IsRun t j → is_named j f ≡ true → f.entry < length j
named_before t [] f run h = absurd (cc)
named_before t (e ∷ j) f run h = named_either t j e f run.1 (λ is. named_before t j f run.0 is) (names f e) refl h

pub filter_both : (p q : FrameName → Bool) (fs : List FrameName) → filter (λ f. not (p f || q f)) fs ≡ filter (λ f. not (p f)) (filter (λ f. not (q f)) fs)
filter_both p q [] = refl
filter_both p q (f ∷ fs) = both_by (p f) (q f) (filter (λ f. not (p f || q f)) fs) (filter (λ f. not (q f)) fs) refl (filter_both p q fs)
  where
    both_by : (a b : Bool) (x y : List FrameName) → p f ≡ a → x ≡ filter (λ f. not (p f)) y
        → cond (not (a || b)) (f ∷ x) x ≡ filter (λ f. not (p f)) (cond (not b) (f ∷ y) y)
    both_by true true x y is h = h
    both_by false true x y is h = h
    both_by true false x y is h = h ∙ ap (λ c. cond (not c) (f ∷ filter (λ f. not (p f)) y) (filter (λ f. not (p f)) y)) (sym is)
    both_by false false x y is h = ap (λ (z : List FrameName). f ∷ z) h
        ∙ ap (λ c. cond (not c) (f ∷ filter (λ f. not (p f)) y) (filter (λ f. not (p f)) y)) (sym is)

pub filter_all : (p : FrameName → Bool) (fs : List FrameName) → AllByRecursion (λ f. p f ≡ false) fs → filter (λ f. not (p f)) fs ≡ fs
filter_all p [] h = refl
filter_all p (f ∷ fs) h = ap (λ b. cond (not b) (f ∷ filter (λ f. not (p f)) fs) (filter (λ f. not (p f)) fs)) h.0
    ∙ ap (λ (z : List FrameName). f ∷ z) (filter_all p fs h.1)

unnamed : (t : Plan) (j : Journal) (e : Entry) (f : FrameName) → IsRun t (e ∷ j) → f.entry ≡ length j → (names f e || is_named j f) ≡ false
unnamed t j e f run is = unnamed_by (names f e) (is_named j f) refl refl
  where
    unnamed_by : (a b : Bool) → names f e ≡ a → is_named j f ≡ b → (a || b) ≡ false
    unnamed_by true b n o = let l = named_now t j e f run.1 n in absurd (omega (arith, l, is))
    unnamed_by false true n o = let l = named_before t j f run.0 o in absurd (omega (arith, l, is))
    unnamed_by false false n o = refl

all_unnamed : (t : Plan) (j : Journal) (e : Entry) (fs : List FrameName) → IsRun t (e ∷ j) → AllByRecursion (IsFrom (length j) 0) fs
    → AllByRecursion (λ f. (names f e || is_named j f) ≡ false) fs
all_unnamed t j e [] run h = tt
all_unnamed t j e (f ∷ fs) run h = (unnamed t j e f run h.0.0, all_unnamed t j e fs run h.1)

-- an entry takes out the frame that it names, and adds those that it sends
pub waiting_next : (t : Plan) (j : Journal) (e : Entry) → IsRun t (e ∷ j)
    → waiting t (e ∷ j) ≡ filter (λ f. not (is_that f (named_by e))) (waiting t j) ++ frames_in t (length j) e
waiting_next t j e run =
    filter-append (λ f. not (names f e || is_named j f)) (frames t j) (frames_in t (length j) e)
    ∙ ap (λ (x : List FrameName). x ++ filter (λ f. not (names f e || is_named j f)) (frames_in t (length j) e))
    (filter_both (λ f. names f e) (is_named j) (frames t j))
    ∙ ap (λ (x : List FrameName). filter (λ f. not (names f e)) (waiting t j) ++ x)
    (filter_all (λ f. names f e || is_named j f) (frames_in t (length j) e) (all_unnamed t j e (frames_in t (length j) e) run (from_in t (length j) e)))

-- where no frame is named all stay
pub none_out : (fs : List FrameName) → filter (λ f. not (is_that f None)) fs ≡ fs
none_out [] = refl
none_out (f ∷ fs) = ap (λ (z : List FrameName). f ∷ z) (none_out fs)

-- ---- output by output

module _ (t : Plan) (m k i : ℕ) (outs : List Output) (o : Output) (l : i < length outs) (is : o ≡ get_or outs i o) where
  abbrev name : FrameName
  name = record { entry = k; output = i }

  left : frames_of t m k i (drop i outs) ≡ or_none (arrives t (flight_of m (Some o))) name (frames_of t m k (i + 1) (drop (i + 1) outs))
  left = ap (frames_of t m k i) (drop_more outs i o l)
      ∙ ap (λ (x : Output). or_none (arrives t (flight_of m (Some x))) name (frames_of t m k (i + 1) (drop (i + 1) outs))) (sym is)

  -- the output is a frame that arrives somewhere
  pub one_more : arrives t (flight_of m (Some o)) ≡ true → frames_of t m k i (drop i outs) ≡ name ∷ frames_of t m k (i + 1) (drop (i + 1) outs)
  one_more h = left ∙ ap (λ b. or_none b name (frames_of t m k (i + 1) (drop (i + 1) outs))) h

  -- or it is not
  pub no_more : arrives t (flight_of m (Some o)) ≡ false → frames_of t m k i (drop i outs) ≡ frames_of t m k (i + 1) (drop (i + 1) outs)
  no_more h = left ∙ ap (λ b. or_none b name (frames_of t m k (i + 1) (drop (i + 1) outs))) h
