-- Each call of the book keeps what the book keeps.
use Rattle.std.proofs.Common.{◌≡◌, ◌≢◌, ℕ, zero, suc, List, [], ◌∷◌, ◌++◌, Option, Some, None, Bool, true, false, not, ◌&&◌, ◌||◌, ◌⊎◌}
use Rattle.std.proofs.Common.{inl, inr, refl, sym, subst, length, arith, ◌<◌, ◌≤◌, ◌∙◌, ap, set, filter, cond, eqb, replicate}
use Rattle.std.specs.List.{AllByRecursion, list_any}
use Rattle.std.specs.List.Sorted.{IsStrictlySortedBy}
use Rattle.std.proofs.lemmas.Bool.{eq-eqb, ne_eqb}
use Rattle.std.proofs.lemmas.List.{get_or-set_same, get_or-set_other, length-set, append_assoc, length-replicate, nil_from_length}
use Rattle.std.proofs.lemmas.List.Elements.{filter-append}
use Rattle.std.proofs.lemmas.List.Kept.{IsStrictlySortedBy-filter}
use Rattle.cip_base.specs.declared.numbers.ModuleId.{ModuleId}
use Rattle.cip_event.specs.declared.event.Event.{Event}
use Rattle.cip_event.specs.declared.event.Event.TheVariants as events
use Rattle.cip_event.specs.declared.event.Output.{Output}
use Rattle.cip_chassis.specs.Plan.{Plan}
use Rattle.cip_event.specs.declared.frame.FrameName.{FrameName}
use Rattle.cip_world.specs.declared.journal.Input.{Input}
use Rattle.cip_world.specs.declared.journal.Input.TheVariants.{Frame}
use Rattle.cip_world.specs.declared.journal.Entry.TheVariants.{Step}
use Rattle.cip_world.specs.declared.world.End.{End}
use Rattle.cip_world.specs.declared.world.End.TheVariants.{Quiet, Limit}
use Rattle.cip_world.specs.Journals.{Journal, same_name, brought_by, is_that, is_named}
use Rattle.cip_world.specs.Names.{name_cmp, AreRising}
use Rattle.cip_world.specs.Runs.{IsWaiting}
use Rattle.cip_world.specs.Waiting.{frames_of, waiting}
use Rattle.cip_world.proofs.Named.{name_eq, same_self, all_stay}
use Rattle.cip_world.proofs.Waits.{IsFrom, from_in, filter_all, listed_waits, waiting_rise}
use Rattle.cip_threads.specs.declared.feed.Feed.{Feed}
use Rattle.cip_threads.specs.declared.feed.Feed.TheVariants as feed
use Rattle.cip_threads.specs.declared.views.BookView.{BookView}
use Rattle.cip_threads.specs.Feeds.{feeds_of, fed, fed_by, input_of}
use Rattle.cip_threads.specs.Queues.{queue_at, enqueue, count_all}
use Rattle.cip_threads.specs.QueueSteps.{AreSplit}
use Rattle.cip_threads.specs.Flows.{IsFlow, IsOpenTo, Comes, goes_to, sends_of}
use Rattle.cip_threads.specs.Books.{IsKept, IsBook, hand_at, is_held, count_hands, fed_in, unheld}
use Rattle.cip_threads.specs.Ends.{IsFinished, IsEnd, MayEnd}
use Rattle.cip_threads.specs.Hands.{opened, with_hand, with_feeds, with_frames, entered}
use Rattle.cip_threads.proofs.Queueing.{none_at_all, count_none, length_enqueue, count_enqueue, enqueued, of_module, feeds_are, queue_same, queue_other}
use Rattle.cip_threads.proofs.Merging.{head_is}
use Rattle.cip_threads.proofs.Sending.{goes_as_before, goes_once, waits_somewhere, sends_within, sent_are}
use Rattle.cip_threads.proofs.Flowing.{flow_next, given_before, one_place, still_open}
use Rattle.cip_threads.proofs.Holding.{held_cut, count_cut, held_put, count_put, not_held, idle_at}
use Rattle.cip_threads.proofs.Holding.{idle_held, hand_within, put_cases, cut_cases, none_at, none_counted}

equal_or : (a b : ℕ) → (a ≡ b) ⊎ (a ≢ b)
equal_or zero zero = inl refl
equal_or zero (suc b) = inr (λ e. absurd (omega (arith, e)))
equal_or (suc a) zero = inr (λ e. absurd (omega (arith, e)))
equal_or (suc a) (suc b) =
    elim (equal_or a b) [
      | inl e ↦ inl (ap suc e)
      | inr n ↦ inr (λ e. n (omega (arith, e)))
    ]

no_or_yes : (b : Bool) → (b ≡ true → ⊥) → b ≡ false
no_or_yes true n = absurd (n refl)
no_or_yes false n = refl

is_not : (b : Bool) → not b ≡ true → b ≡ false
is_not true e = cc
is_not false e = refl

not_and : (a b : Bool) → not (a || b) ≡ (not b && not a)
not_and true true = refl
not_and true false = refl
not_and false true = refl
not_and false false = refl

filter_like : (p q : FrameName → Bool) (xs : List FrameName) → ((x : FrameName) → p x ≡ q x) → filter p xs ≡ filter q xs
filter_like p q [] same = refl
filter_like p q (x ∷ xs) same = ap (λ b. cond b (x ∷ filter p xs) (filter p xs)) (same x)
    ∙ ap (λ (l : List FrameName). cond (q x) (x ∷ l) l) (filter_like p q xs same)

twice_one : (p : FrameName → Bool) (x : FrameName) (a c : Bool) (us vs : List FrameName) → c ≡ (a && p x) → filter p us ≡ vs
    → filter p (cond a (x ∷ us) us) ≡ cond c (x ∷ vs) vs
twice_one p x true c us vs e h = ap (λ (l : List FrameName). cond (p x) (x ∷ l) l) h ∙ ap (λ b. cond b (x ∷ vs) vs) (sym e)
twice_one p x false c us vs e h = h ∙ ap (λ b. cond b (x ∷ vs) vs) (sym e)

-- two filters, one after the other, are one
filter_twice : (p q r : FrameName → Bool) (xs : List FrameName) → ((x : FrameName) → r x ≡ (q x && p x)) → filter p (filter q xs) ≡ filter r xs
filter_twice p q r [] same = refl
filter_twice p q r (x ∷ xs) same = twice_one p x (q x) (r x) (filter q xs) (filter r xs) (same x) (filter_twice p q r xs same)

-- ---- at first

pub new_keeps : (t : Plan) (feeds : List (ModuleId × Feed)) (turns : ℕ) → AllByRecursion (λ fed. fed.0.0 < length t.modules) feeds
    → IsBook (opened t feeds turns) (length feeds) 0
new_keeps t feeds turns all =
    let n = length t.modules in
    let none = none_counted n in
    let queues = length-replicate n [] in
    let no_feeds = count_none Feed n in
    let counted = count_enqueue (replicate n []) n feeds queues all in
    record {
      kept = record {
        flow = tt;
        count = length-replicate n None;
        feed_queues = length_enqueue (replicate n []) feeds ∙ queues;
        frame_queues = length-replicate n [];
        frames = λ m. none_at_all FrameName n m;
        held = λ m input e. (let x = none_at n m in cc);
        feeds = λ m. sym (ap (λ x. fed_in x ++ queue_at (enqueue (replicate n []) feeds) m) (none_at n m) ∙ enqueued (replicate n []) n m feeds queues all
            ∙ ap (λ (l : List Feed). l ++ of_module m feeds) (none_at_all Feed n m) ∙ feeds_are m feeds);
        taken = omega (arith, none);
        turns = omega arith;
      };
      feed_count = omega (arith, counted, no_feeds);
      frame_count = count_none FrameName n;
    }

-- ---- a feed goes into a hand

no_frame : (x : Feed) → brought_by (input_of x) ≡ None
no_frame (feed.Command command) = refl
no_frame (feed.Tick ms) = refl

fed_itself : (x : Feed) → fed_by (input_of x) ≡ x ∷ []
fed_itself (feed.Command command) = refl
fed_itself (feed.Tick ms) = refl

open_to_feed : (t : Plan) (j : Journal) (m : ℕ) (x : Feed) → IsOpenTo t j m (input_of x)
open_to_feed t j m (feed.Command command) = record { event = events.Command command; given = refl }
open_to_feed t j m (feed.Tick ms) = record { event = events.Tick ms; given = refl }

pub feed_keeps : (s : BookView) (m : ℕ) (feed : Feed) (rest : List Feed) → IsKept s → m < length s.hands → hand_at s.hands m ≡ None → s.taken < s.turns
    → queue_at s.feeds m ≡ feed ∷ rest → IsKept (with_hand (with_feeds s m rest) m (input_of feed))
feed_keeps s m feed rest k within free left is =
    let input : Input = input_of feed in
    let put = get_or-set_same s.hands m (Some input) None within in
    let counted = count_put s.hands m input within free in
    let taken = k.taken in
    let count = k.count in
    let queues = k.feed_queues in
    let same = queue_same s.feeds m rest (omega (arith, within, count, queues)) in
    record {
      flow = k.flow;
      count = length-set s.hands m (Some input) ∙ k.count;
      feed_queues = length-set s.feeds m rest ∙ k.feed_queues;
      frame_queues = k.frame_queues;
      frames = λ n. k.frames n ∙ ap (filter (goes_to s.topology s.journal n)) (filter_like _ _ (waiting s.topology s.journal)
          (λ x. ap not (ap (λ o. is_that x o || is_held s.hands x) (sym (no_frame feed)) ∙ sym (held_put s.hands m input x within free))));
      held = λ n g e. elim (put_cases s.hands m n input g e) [
        | inl c ↦ subst (IsOpenTo s.topology s.journal n) (sym c.1) (open_to_feed s.topology s.journal n feed)
        | inr o ↦ k.held n g o
      ];
      feeds = λ n. elim (equal_or n m) [
        | inl e ↦ rw (e, put, fed_itself feed, same) (k.feeds m ∙ rw (free, is) refl)
        | inr o ↦ rw (get_or-set_other s.hands m n (Some input) None o, queue_other s.feeds m n rest o) (k.feeds n)
      ];
      taken = omega (arith, counted, taken);
      turns = omega (arith, left);
    }

-- ---- a frame goes into the hand of its module

any_cond : (q : FrameName → Bool) (x : FrameName) (us vs : List FrameName) (b : Bool) → (list_any q us ≡ true → list_any q vs ≡ true)
    → list_any q (cond b (x ∷ us) us) ≡ true → list_any q (x ∷ vs) ≡ true
any_cond q x us vs true f h = more (q x) h
  where
    more : (c : Bool) → (c || list_any q us) ≡ true → (c || list_any q vs) ≡ true
    more true e = refl
    more false e = f e
any_cond q x us vs false f h = more (q x)
  where
    more : (c : Bool) → (c || list_any q vs) ≡ true
    more true = refl
    more false = f h

any_filter : (q p : FrameName → Bool) (xs : List FrameName) → list_any q (filter p xs) ≡ true → list_any q xs ≡ true
any_filter q p [] h = h
any_filter q p (x ∷ xs) h = any_cond q x (filter p xs) xs (p x) (any_filter q p xs) h

first_there : (p : FrameName → Bool) (xs : List FrameName) (x : FrameName) (rest : List FrameName) → filter p xs ≡ x ∷ rest
    → list_any (λ g. same_name g x) xs ≡ true
first_there p xs x rest e =
    any_filter (λ g. same_name g x) p xs (ap (list_any (λ g. same_name g x)) e ∙ ap (λ b. b || list_any (λ g. same_name g x) rest) (same_self x))

first_passes : (p : FrameName → Bool) (xs : List FrameName) (x : FrameName) (rest : List FrameName) → filter p xs ≡ x ∷ rest → p x ≡ true
first_passes p [] x rest e = cc
first_passes p (y ∷ xs) x rest e = by (p y) refl (λ r. first_passes p xs x rest r)
  where
    by : (b : Bool) → p y ≡ b → (filter p xs ≡ x ∷ rest → p x ≡ true) → p x ≡ true
    by true is f = subst (λ (z : FrameName). p z ≡ true) (head_is y x (filter p xs) rest (sym (ap (λ c. cond c (y ∷ filter p xs) (filter p xs)) is) ∙ e)).0 is
    by false is f = f (sym (ap (λ c. cond c (y ∷ filter p xs) (filter p xs)) is) ∙ e)

and_swap : (a b : Bool) → (a && b) ≡ (b && a)
and_swap true true = refl
and_swap true false = refl
and_swap false true = refl
and_swap false false = refl

implied : (a b : Bool) → (a ≡ true → b ≡ true) → a ≡ (b && a)
implied true b f = sym (ap (λ c. c && true) (f refl))
implied false true f = refl
implied false false f = refl

filter_swap : (p q : FrameName → Bool) (xs : List FrameName) → filter p (filter q xs) ≡ filter q (filter p xs)
filter_swap p q xs =
    filter_twice p q (λ x. q x && p x) xs (λ x. refl) ∙ sym (filter_twice q p (λ x. q x && p x) xs (λ x. and_swap (q x) (p x)))

filter_sub : (p q : FrameName → Bool) (xs : List FrameName) → ((x : FrameName) → p x ≡ true → q x ≡ true) → filter p (filter q xs) ≡ filter p xs
filter_sub p q xs sub = filter_twice p q p xs (λ x. implied (p x) (q x) (sub x))

not_is : (b : Bool) → (b ≡ true → ⊥) → not b ≡ true
not_is true n = absurd (n refl)
not_is false n = refl

-- the first of a rising list is not among the others
rest_stays : (x : FrameName) (rest : List FrameName) → AreRising (x ∷ rest) → filter (λ g. not (same_name g x)) (x ∷ rest) ≡ rest
unfolding IsStrictlySortedBy
rest_stays x rest rising =
    ap (λ b. cond (not b) (x ∷ filter (λ g. not (same_name g x)) rest) (filter (λ g. not (same_name g x)) rest)) (same_self x) ∙ all_stay x rest rising.0

pub frame_keeps : (s : BookView) (m : ℕ) (name : FrameName) (rest : List FrameName) (port : ℕ) (from : List ℕ) (event : Event) → IsKept s → m < length s.hands
    → hand_at s.hands m ≡ None → s.taken < s.turns → queue_at s.frames m ≡ name ∷ rest → Comes s.topology s.journal name m port from event
    → IsKept (with_hand (with_frames s m rest) m (Frame port from name))
frame_keeps s m name rest port from event k within free left is comes =
    let input : Input = Frame port from name in
    let W = waiting s.topology s.journal in
    let p : FrameName → Bool = λ f. not (is_held s.hands f) in
    let other : FrameName → Bool = λ g. not (same_name g name) in
    let own : ℕ → FrameName → Bool = goes_to s.topology s.journal in
    let front : filter (own m) (filter p W) ≡ name ∷ rest = sym (k.frames m) ∙ is in
    let w : IsWaiting s.topology s.journal name =
    listed_waits s.topology s.journal name (any_filter (λ g. same_name g name) p W (first_there (own m) (filter p W) name rest front)) in
    let open_to : IsOpenTo s.topology s.journal m input = record {
      event = event;
      given = record {
        waits = record {
          flight = comes.flight;
          there = record { at = m; port = port; address = from };
          sent = comes.sent;
          leads = comes.leads;
          fresh = w.fresh;
        };
        here = refl;
        event_is = comes.event_is;
      };
    } in
    let put = get_or-set_same s.hands m (Some input) None within in
    let counted = count_put s.hands m input within free in
    let taken = k.taken in
    let count = k.count in
    let queues = k.frame_queues in
    let mine = first_passes (own m) (filter p W) name rest front in
    let rising : AreRising (name ∷ rest) =
    subst AreRising front (IsStrictlySortedBy-filter name_cmp (own m) (filter p W)
    (IsStrictlySortedBy-filter name_cmp p W (waiting_rise s.topology s.journal))) in
    let left_over : filter other (filter p W) ≡ filter (λ f. not (is_held (set s.hands m (Some input)) f)) W =
    filter_twice other p (λ f. not (is_held (set s.hands m (Some input)) f)) W
    (λ x. ap not (held_put s.hands m input x within free) ∙ not_and (same_name x name) (is_held s.hands x)) in
    record {
      flow = k.flow;
      count = length-set s.hands m (Some input) ∙ k.count;
      feed_queues = k.feed_queues;
      frame_queues = length-set s.frames m rest ∙ k.frame_queues;
      frames = λ n. elim (equal_or n m) [
        | inl e ↦ ap (queue_at (set s.frames m rest)) e ∙ queue_same s.frames m rest (omega (arith, within, count, queues))
            ∙ sym (rest_stays name rest rising) ∙ ap (filter other) (sym front) ∙ filter_swap other (own m) (filter p W)
            ∙ ap (filter (own m)) left_over ∙ ap (λ (i : ℕ). filter (own i) (filter (λ f. not (is_held (set s.hands m (Some input)) f)) W)) (sym e)
        | inr o ↦ queue_other s.frames m n rest o ∙ k.frames n
            ∙ sym (filter_sub (own n) other (filter p W)
            (λ x yes. not_is (same_name x name)
            (λ same. o (goes_once s.topology s.journal name n m (subst (λ (y : FrameName). own n y ≡ true) (name_eq x name same) yes) mine))))
            ∙ ap (filter (own n)) left_over
      ];
      held = λ n g e. elim (put_cases s.hands m n input g e) [
        | inl c ↦ subst (IsOpenTo s.topology s.journal n) (sym c.1) (subst (λ (i : ℕ). IsOpenTo s.topology s.journal i input) (sym c.0) open_to)
        | inr o ↦ k.held n g o
      ];
      feeds = λ n. elim (equal_or n m) [
        | inl e ↦ rw (e, put) (k.feeds m ∙ rw free refl)
        | inr o ↦ rw (get_or-set_other s.hands m n (Some input) None o) (k.feeds n)
      ];
      taken = omega (arith, counted, taken);
      turns = omega (arith, left);
    }

-- what is in a module's queue comes to it
pub queue_goes : (s : BookView) → IsKept s → (m : ℕ) (name : FrameName) (rest : List FrameName) → queue_at s.frames m ≡ name ∷ rest
    → goes_to s.topology s.journal m name ≡ true
queue_goes s k m name rest is = first_passes (goes_to s.topology s.journal m) (unheld s) name rest (sym (k.frames m) ∙ is)

pub first_same : (x y : Feed) (xs ys : List Feed) → x ∷ xs ≡ y ∷ ys → x ≡ y
first_same x y xs ys e = cc

-- ---- what is in hand is entered

fed_own : (b : Bool) → b ≡ true → (xs ys : List Feed) → cond b (xs ++ ys) xs ≡ xs ++ ys
fed_own true e xs ys = refl
fed_own false e xs ys = cc

fed_other : (b : Bool) → b ≡ false → (xs ys : List Feed) → cond b ys xs ≡ xs
fed_other true e xs ys = cc
fed_other false e xs ys = refl

feeds_own : (s : BookView) (id : ModuleId) (input : Input) (outputs : List Output) → IsKept s → hand_at s.hands id.0 ≡ Some input → id.0 < length s.hands
    → feeds_of id.0 s.given ≡ fed id.0 (Step id input outputs ∷ s.journal) ++ (fed_in (hand_at (set s.hands id.0 None) id.0) ++ queue_at s.feeds id.0)
feeds_own s id input outputs k held within =
    k.feeds id.0
    ∙ ap (λ (h : Option Input). fed id.0 s.journal ++ (fed_in h ++ queue_at s.feeds id.0)) held
    ∙ sym (append_assoc (fed id.0 s.journal) (fed_by input) (queue_at s.feeds id.0))
    ∙ ap (λ (l : List Feed). l ++ queue_at s.feeds id.0) (sym (fed_own (eqb id.0 id.0) (eq-eqb id.0 id.0 refl) (fed id.0 s.journal) (fed_by input)))
    ∙ ap (λ (h : Option Input). fed id.0 (Step id input outputs ∷ s.journal) ++ (fed_in h ++ queue_at s.feeds id.0))
    (sym (get_or-set_same s.hands id.0 None None within))

all_unheld : (t : Plan) (j : Journal) (hands : List (Option Input)) (fs : List FrameName) → ((n : ℕ) (g : Input) → hand_at hands n ≡ Some g → IsOpenTo t j n g)
    → AllByRecursion (IsFrom (length j) 0) fs → AllByRecursion (λ f. is_held hands f ≡ false) fs
all_unheld t j hands [] held h = tt
all_unheld t j hands (f ∷ fs) held h =
    let same = h.0.0 in (
      not_held hands f (λ n g e. no_or_yes (is_that f (brought_by g)) (λ yes. let l = given_before t j n g f (held n g e) yes in
          absurd (omega (arith, l, same)))),
      all_unheld t j hands fs held h.1,
    )

pub enter_keeps : (s : BookView) (id : ModuleId) (input : Input) (outputs : List Output) → IsKept s → hand_at s.hands id.0 ≡ Some input
    → IsKept (entered s id input outputs)
enter_keeps s id input outputs k held =
    let t = s.topology in
    let j = s.journal in
    let W = waiting t j in
    let F = frames_of t id.0 (length j) 0 outputs in
    let p : FrameName → Bool = λ f. not (is_held s.hands f) in
    let q : FrameName → Bool = λ f. not (is_that f (brought_by input)) in
    let cut : FrameName → Bool = λ f. not (is_held (set s.hands id.0 None) f) in
    let within = hand_within s.hands id.0 input held in
    let count = k.count in
    let counted = count_cut s.hands id.0 input held in
    let taken = k.taken in
    let flow : IsFlow t (Step id input outputs ∷ j) = (k.flow, omega (arith, within, count), k.held id.0 input held) in
    let others = λ (n : ℕ) (g : Input) (e : hand_at (set s.hands id.0 None) n ≡ Some g). k.held n g (cut_cases s.hands id.0 n g e).1 in
    let S = sends_of t id.0 (length j) 0 outputs in
    let U = filter p W in
    let all = sends_within t id.0 (length j) 0 outputs in
    let next : filter cut (waiting t (Step id input outputs ∷ j)) ≡ U ++ F =
    ap (filter cut) (flow_next t j id input outputs flow)
    ∙ filter-append cut (filter q W) F
    ∙ ap (λ (l : List FrameName). l ++ filter cut F) (filter_twice cut q p W (λ x. sym (held_cut s.hands id.0 input x held)))
    ∙ ap (λ (l : List FrameName). filter p W ++ l)
    (filter_all (is_held (set s.hands id.0 None)) F (all_unheld t j (set s.hands id.0 None) F others (from_in t (length j) (Step id input outputs)))) in
    record {
      flow = flow;
      count = length-set s.hands id.0 None ∙ k.count;
      feed_queues = k.feed_queues;
      frame_queues = length_enqueue s.frames S ∙ k.frame_queues;
      frames = λ n. let own : FrameName → Bool = goes_to t (Step id input outputs ∷ j) n in
          enqueued s.frames (length t.modules) n S k.frame_queues all
          ∙ ap (λ (l : List FrameName). l ++ of_module n S) (k.frames n ∙ goes_as_before t (Step id input outputs) j n p (λ f. not (is_named j f)))
          ∙ ap (λ (l : List FrameName). filter own U ++ l) (sent_are t j id input outputs n 0 outputs refl)
          ∙ sym (filter-append own U F) ∙ ap (filter own) (sym next);
      held = λ n g e. let o = cut_cases s.hands id.0 n g e in
          still_open t j id input outputs n g
          (λ f is. no_or_yes (is_that f (brought_by input)) (λ yes. o.0 (one_place t j n id.0 g input f (k.held n g o.1) (k.held id.0 input held) is yes)))
          (k.held n g o.1);
      feeds = λ n. elim (equal_or n id.0) [
        | inl o ↦ subst (λ (i : ℕ). feeds_of i s.given
            ≡ fed i (Step id input outputs ∷ j) ++ (fed_in (hand_at (set s.hands id.0 None) i) ++ queue_at s.feeds i)) (sym o)
            (feeds_own s id input outputs k held within)
        | inr o ↦ rw (
          get_or-set_other s.hands id.0 n None None o,
          fed_other (eqb id.0 n) (ne_eqb id.0 n (λ x. o (sym x))) (fed n j) (fed n j ++ fed_by input),
        ) (k.feeds n)
      ];
      taken = omega (arith, counted, taken);
      turns = k.turns;
    }

-- ---- a book with nothing in hand is finished

filter_whole : (p : FrameName → Bool) (xs : List FrameName) → ((x : FrameName) → p x ≡ true) → filter p xs ≡ xs
filter_whole p [] all = refl
filter_whole p (x ∷ xs) all = ap (λ b. cond b (x ∷ filter p xs) (filter p xs)) (all x) ∙ ap (λ (l : List FrameName). x ∷ l) (filter_whole p xs all)

unheld_idle : (s : BookView) → count_hands s.hands ≡ 0 → unheld s ≡ waiting s.topology s.journal
unheld_idle s idle = filter_whole (λ f. not (is_held s.hands f)) (waiting s.topology s.journal) (λ f. ap not (idle_held s.hands f idle))

-- where nothing is in hand, each frame that waits is in the queue of one module
pub split_is : (s : BookView) → IsKept s → count_hands s.hands ≡ 0 → AreSplit (goes_to s.topology s.journal) s.frames (waiting s.topology s.journal)
split_is s k idle =
    record {
      rising = waiting_rise s.topology s.journal;
      split = λ m. k.frames m ∙ ap (filter (goes_to s.topology s.journal m)) (unheld_idle s idle);
      somewhere = waits_somewhere s.topology s.journal;
      apart = goes_once s.topology s.journal;
    }

-- all turns are in the journal
pub all_turns : (s : BookView) → IsKept s → count_hands s.hands ≡ 0 → s.turns ≤ s.taken → length s.journal ≡ s.turns
all_turns s k idle done = let a = k.taken in let b = k.turns in omega (arith, a, b, idle, done)

end_is : (s : BookView) (feeds : List (ModuleId × Feed)) (frames : List FrameName) (end : End) → IsKept s → count_hands s.hands ≡ 0
    → length feeds ≡ count_all s.feeds
    → length frames ≡ count_all s.frames → MayEnd s end → IsEnd s.turns s.journal feeds frames end
end_is s feeds frames Quiet k idle a b may = (nil_from_length feeds (a ∙ may.0), nil_from_length frames (b ∙ may.1))
end_is s feeds frames Limit k idle a b may = let some = may.0 in (omega (arith, a, b, some), all_turns s k idle may.1)

pub finish_is : (s : BookView) (feeds : List (ModuleId × Feed)) (frames : List FrameName) (end : End) → IsKept s → count_hands s.hands ≡ 0
    → ((m : ℕ) → feeds_of m feeds ≡ queue_at s.feeds m) → length feeds ≡ count_all s.feeds → frames ≡ waiting s.topology s.journal
    → length frames ≡ count_all s.frames
    → MayEnd s end → IsFinished s.topology s.given s.turns s.journal feeds frames end
finish_is s feeds frames end k idle each size waits count may =
    record {
      flow = k.flow;
      waits = waits;
      fed_all = λ m. k.feeds m ∙ ap (λ (h : Option Input). fed m s.journal ++ (fed_in h ++ queue_at s.feeds m)) (idle_at s.hands m idle)
          ∙ ap (λ (l : List Feed). fed m s.journal ++ l) (sym (each m));
      ends = end_is s feeds frames end k idle size count may;
    }
