-- The frames that an entry sends, and the queues that they go to.
use Rattle.std.proofs.Common.{◌≡◌, ℕ, zero, suc, List, [], ◌∷◌, ◌++◌, Option, Some, None, Bool, true, false, ◌||◌, refl}
use Rattle.std.proofs.Common.{sym, cond, filter, drop, is_some, get_or, length, arith, ◌<◌, ◌+◌, ◌∙◌, ap, eqb}
use Rattle.std.specs.Prelude.{slice_get, find, option_map}
use Rattle.std.specs.List.{AllByRecursion, list_any}
use Rattle.std.proofs.lemmas.Bool.{eq-eqb, ne_eqb, eqb-true}
use Rattle.std.proofs.lemmas.List.{drop-drop, drop_more, append_assoc}
use Rattle.cip_base.specs.declared.numbers.ModuleId.{ModuleId}
use Rattle.cip_config.specs.declared.config.ModuleSettings.{ModuleSettings}
use Rattle.cip_config.specs.declared.config.PortConfig.{PortConfig}
use Rattle.cip_event.specs.declared.event.Output.{Output}
use Rattle.cip_chassis.specs.Plan.{Plan}
use Rattle.cip_chassis.specs.Nodes.{Way, Node, is_at, node_from, or_later, comes_in, leaves_by, own_port, across as goes}
use Rattle.cip_event.specs.declared.frame.FrameName.{FrameName}
use Rattle.cip_world.specs.declared.journal.Input.{Input}
use Rattle.cip_world.specs.declared.journal.Entry.{Entry}
use Rattle.cip_world.specs.declared.journal.Entry.TheVariants.{Step}
use Rattle.cip_world.specs.Journals.{Journal, Flight, flight_of, sent_by, entry_at, same_name}
use Rattle.cip_world.specs.Runs.{IsWaiting}
use Rattle.cip_world.specs.Waiting.{arrives, or_none, frames_of, frames_in, frames, waiting}
use Rattle.cip_world.proofs.Named.{same_self}
use Rattle.cip_world.proofs.Waits.{IsFrom, from_in, listed_waits}
use Rattle.cip_threads.specs.Flows.{way_of, is_into, goes_to, sent_if, sends_of}
use Rattle.cip_threads.proofs.Flowing.{some_same}
use Rattle.cip_threads.proofs.Queueing.{of_module}

-- ---- a frame comes to one module of the topology

node_within : (i : ℕ) (cs : List ModuleSettings) (link : ℕ) (address : List ℕ) (n : Node) → node_from i cs link address ≡ Some n → n.at < i + length cs
node_within i [] link address n e = cc
node_within i (c ∷ cs) link address n e = by (find (is_at link address) c.ports) e (λ r. node_within (i + 1) cs link address n r)
  where
    by : (o : Option PortConfig) → or_later i o (node_from (i + 1) cs link address) ≡ Some n
        → (node_from (i + 1) cs link address ≡ Some n → n.at < (i + 1) + length cs)
        → n.at < i + suc (length cs)
    by None r f = let l = f r in omega (arith, l)
    by (Some p) r f = let s = ap (λ (x : Node). x.at) (some_same _ _ r) in omega (arith, s)

pub goes_within : (t : Plan) (way there : Way) → goes t way ≡ Some there → there.at < length t.modules
goes_within t way there e = by_port (own_port t way.at way.port) e
  where
    by_node : (from : List ℕ) (l : ℕ) (o : Option Node) → node_from 0 t.modules l way.address ≡ o → comes_in from o ≡ Some there → there.at < length t.modules
    by_node from l None at r = cc
    by_node from l (Some n) at r =
        let low = node_within 0 t.modules l way.address n at in
        let s = ap (λ (x : Way). x.at) (some_same _ _ r) in omega (arith, low, s)

    by_port : (o : Option PortConfig) → leaves_by t.modules way.address o ≡ Some there → there.at < length t.modules
    by_port None r = cc
    by_port (Some p) r = by_node p.address p.link (node_from 0 t.modules p.link way.address) refl r

into_once : (o : Option Way) (m n : ℕ) → is_into m o ≡ true → is_into n o ≡ true → m ≡ n
into_once None m n a b = cc
into_once (Some there) m n a b = sym (eqb-true there.at m a) ∙ eqb-true there.at n b

pub goes_once : (t : Plan) (j : Journal) (f : FrameName) (m n : ℕ) → goes_to t j m f ≡ true → goes_to t j n f ≡ true → m ≡ n
goes_once t j f m n a b = into_once (way_of t (sent_by (entry_at j f.entry) f.output)) m n a b

pub goes_older : (t : Plan) (e : Entry) (j : Journal) (n : ℕ) (f : FrameName) → f.entry < length j → goes_to t (e ∷ j) n f ≡ goes_to t j n f
goes_older t e j n f low =
    ap (λ b. is_into n (way_of t (sent_by (cond b (Some e) (entry_at j f.entry)) f.output)))
    (ne_eqb f.entry (length j) (λ same. absurd (omega (arith, low, same))))

-- ---- the names that wait

all_both : (P : FrameName → Type 0) (fs gs : List FrameName) → AllByRecursion P fs → AllByRecursion P gs → AllByRecursion P (fs ++ gs)
all_both P [] gs h k = k
all_both P (f ∷ fs) gs h k = (h.0, all_both P fs gs h.1 k)

all_to : (P Q : FrameName → Type 0) (fs : List FrameName) → ((f : FrameName) → P f → Q f) → AllByRecursion P fs → AllByRecursion Q fs
all_to P Q [] to h = tt
all_to P Q (f ∷ fs) to h = (to f h.0, all_to P Q fs to h.1)

pub all_filter : (P : FrameName → Type 0) (p : FrameName → Bool) (fs : List FrameName) → AllByRecursion P fs → AllByRecursion P (filter p fs)
all_filter P p [] h = tt
all_filter P p (f ∷ fs) h = by (p f) (filter p fs) (all_filter P p fs h.1)
  where
    by : (b : Bool) (gs : List FrameName) → AllByRecursion P gs → AllByRecursion P (cond b (f ∷ gs) gs)
    by true gs k = (h.0, k)
    by false gs k = k

below_frames : (t : Plan) (j : Journal) → AllByRecursion (λ f. f.entry < length j) (frames t j)
below_frames t [] = tt
below_frames t (e ∷ j) =
    all_both (λ f. f.entry < suc (length j)) (frames t j) (frames_in t (length j) e)
    (all_to (λ f. f.entry < length j) (λ f. f.entry < suc (length j)) (frames t j) (λ f low. omega (arith, low)) (below_frames t j))
    (all_to (IsFrom (length j) 0) (λ f. f.entry < suc (length j)) (frames_in t (length j) e) (λ f is. let same = is.0 in
    omega (arith, same)) (from_in t (length j) e))

-- an entry changes no way of a frame that waited before
pub goes_as_before : (t : Plan) (e : Entry) (j : Journal) (n : ℕ) (p q : FrameName → Bool) → filter (goes_to t j n) (filter p (filter q (frames t j)))
    ≡ filter (goes_to t (e ∷ j) n) (filter p (filter q (frames t j)))
goes_as_before t e j n p q =
    like (filter p (filter q (frames t j)))
    (all_filter (λ f. f.entry < length j) p (filter q (frames t j)) (all_filter (λ f. f.entry < length j) q (frames t j) (below_frames t j)))
  where
    like : (fs : List FrameName) → AllByRecursion (λ f. f.entry < length j) fs → filter (goes_to t j n) fs ≡ filter (goes_to t (e ∷ j) n) fs
    like [] h = refl
    like (f ∷ fs) h =
        ap (λ (l : List FrameName). cond (goes_to t j n f) (f ∷ l) l) (like fs h.1)
        ∙ ap (λ b. cond b (f ∷ filter (goes_to t (e ∷ j) n) fs) (filter (goes_to t (e ∷ j) n) fs)) (sym (goes_older t e j n f h.0))

or_left : (a b : Bool) → a ≡ true → (a || b) ≡ true
or_left true b e = refl
or_left false b e = cc

or_right : (a b : Bool) → b ≡ true → (a || b) ≡ true
or_right true b e = refl
or_right false b e = e

all_members : (P : FrameName → Type 0) (fs : List FrameName) → ((f : FrameName) → list_any (λ g. same_name g f) fs ≡ true → P f) → AllByRecursion P fs
all_members P [] h = tt
all_members P (f ∷ fs) h = (
  h f (or_left (same_name f f) (list_any (λ g. same_name g f) fs) (same_self f)),
  all_members P fs (λ x is. h x (or_right (same_name f x) (list_any (λ g. same_name g x) fs) is)),
)

pub waits_somewhere : (t : Plan) (j : Journal) → AllByRecursion (λ f. (m : ℕ) × (goes_to t j m f ≡ true)) (waiting t j)
waits_somewhere t j =
    all_members (λ f. (m : ℕ) × (goes_to t j m f ≡ true)) (waiting t j) (λ f is. let w : IsWaiting t j f = listed_waits t j f is in
    (w.there.at, ap (λ (o : Option Flight). is_into w.there.at (way_of t o)) w.sent ∙ ap (is_into w.there.at) w.leads ∙ eq-eqb w.there.at w.there.at refl))

-- ---- what one entry sends

sent_all : (P : ModuleId × FrameName → Type 0) (w : Option Way) (f : FrameName) (xs : List (ModuleId × FrameName))
    → ((there : Way) → w ≡ Some there → P (record { 0 = there.at }, f))
    → AllByRecursion P xs → AllByRecursion P (sent_if w f xs)
sent_all P None f xs h k = k
sent_all P (Some there) f xs h k = (h there refl, k)

way_within : (t : Plan) (o : Option Flight) (there : Way) → way_of t o ≡ Some there → there.at < length t.modules
way_within t None there e = cc
way_within t (Some flight) there e = goes_within t flight.way there e

pub sends_within : (t : Plan) (m k i : ℕ) (outs : List Output) → AllByRecursion (λ x. x.0.0 < length t.modules) (sends_of t m k i outs)
sends_within t m k i [] = tt
sends_within t m k i (o ∷ outs) =
    sent_all (λ x. x.0.0 < length t.modules) (way_of t (flight_of m (Some o))) (record { entry = k; output = i }) (sends_of t m k (i + 1) outs)
    (λ there e. way_within t (flight_of m (Some o)) there e) (sends_within t m k (i + 1) outs)

arrives_is : (t : Plan) (o : Option Flight) → arrives t o ≡ is_some (way_of t o)
arrives_is t None = refl
arrives_is t (Some flight) = refl

sent_one : (w : Option Way) (f : FrameName) (xs : List (ModuleId × FrameName)) (ys : List FrameName) (p : FrameName → Bool) (n : ℕ)
    → p f ≡ is_into n w → of_module n xs ≡ filter p ys
    → of_module n (sent_if w f xs) ≡ filter p (or_none (is_some w) f ys)
sent_one None f xs ys p n e h = h
sent_one (Some there) f xs ys p n e h =
    ap (λ (l : List FrameName). cond (eqb there.at n) (f ∷ l) l) h ∙ ap (λ b. cond b (f ∷ filter p ys) (filter p ys)) (sym e)

get_dropped : (os : List Output) (i : ℕ) (o : Output) (rest : List Output) → drop i os ≡ o ∷ rest → slice_get os i ≡ Some o
get_dropped [] zero o rest e = cc
get_dropped [] (suc i) o rest e = cc
get_dropped (x ∷ os) zero o rest e = cc
get_dropped (x ∷ os) (suc i) o rest e = get_dropped os i o rest e

-- those that come to module n are, in their order, the frames of the entry that do
pub sent_are : (t : Plan) (j : Journal) (id : ModuleId) (input : Input) (outs : List Output) (n i : ℕ) (rest : List Output) → drop i outs ≡ rest
    → of_module n (sends_of t id.0 (length j) i rest) ≡ filter (goes_to t (Step id input outs ∷ j) n) (frames_of t id.0 (length j) i rest)
sent_are t j id input outs n i [] e = refl
sent_are t j id input outs n i (o ∷ rest) e =
    let f : FrameName = record { entry = length j; output = i } in
    let p : FrameName → Bool = goes_to t (Step id input outs ∷ j) n in
    let more = sent_are t j id input outs n (i + 1) rest (sym (drop-drop 1 i outs) ∙ ap (drop 1) e) in
    let here : p f ≡ is_into n (way_of t (flight_of id.0 (Some o))) =
    ap (λ b. is_into n (way_of t (sent_by (cond b (Some (Step id input outs)) (entry_at j (length j))) i))) (eq-eqb (length j) (length j) refl)
    ∙ ap (λ (x : Option Output). is_into n (way_of t (flight_of id.0 x))) (get_dropped outs i o rest e) in
    sent_one (way_of t (flight_of id.0 (Some o))) f (sends_of t id.0 (length j) (i + 1) rest) (frames_of t id.0 (length j) (i + 1) rest) p n here more
    ∙ ap (λ b. filter p (or_none b f (frames_of t id.0 (length j) (i + 1) rest))) (sym (arrives_is t (flight_of id.0 (Some o))))

-- ---- as the code lists them

pub sent_some : (w : Option Way) (to : ModuleId) (f : FrameName) (xs : List (ModuleId × FrameName))
    → option_map (λ (id : ModuleId). id.0) (Some to) ≡ option_map (λ (v : Way). v.at) w
    → sent_if w f xs ≡ (to, f) ∷ xs
sent_some None to f xs e = cc
sent_some (Some there) to f xs e =
    ap (λ (n : ℕ). (record { 0 = n }, f) ∷ xs) (sym (some_same to.0 there.at e))

pub sent_none : (w : Option Way) (f : FrameName) (xs : List (ModuleId × FrameName))
    → option_map (λ (id : ModuleId). id.0) None ≡ option_map (λ (v : Way). v.at) w
    → sent_if w f xs ≡ xs
sent_none None f xs e = refl
sent_none (Some there) f xs e = cc

sent_append : (w : Option Way) (f : FrameName) (xs : List (ModuleId × FrameName)) → sent_if w f xs ≡ sent_if w f [] ++ xs
sent_append None f xs = refl
sent_append (Some there) f xs = refl

pub sends_next : (t : Plan) (m k i : ℕ) (outs : List Output) (o : Output) (acc new end : List (ModuleId × FrameName)) → i < length outs → o ≡ get_or outs i o
    → new ≡ acc ++ sent_if (way_of t (flight_of m (Some o))) (record { entry = k; output = i }) [] → acc ++ sends_of t m k i (drop i outs) ≡ end
    → new ++ sends_of t m k (i + 1) (drop (i + 1) outs) ≡ end
sends_next t m k i outs o acc new end lt at e old =
    let w = way_of t (flight_of m (Some o)) in
    let f : FrameName = record { entry = k; output = i } in
    let more = sends_of t m k (i + 1) (drop (i + 1) outs) in
    ap (λ (l : List (ModuleId × FrameName)). l ++ more) e ∙ append_assoc acc (sent_if w f []) more
    ∙ ap (λ (l : List (ModuleId × FrameName)). acc ++ l) (sym (sent_append w f more))
    ∙ ap (λ (l : List Output). acc ++ sends_of t m k i l) (sym (drop_more outs i o lt ∙ ap (λ (y : Output). y ∷ drop (i + 1) outs) (sym at)))
    ∙ old

pub into_is : (m : ℕ) (there : Way) → is_into m (Some there) ≡ true → there.at ≡ m
into_is m there e = eqb-true there.at m e
