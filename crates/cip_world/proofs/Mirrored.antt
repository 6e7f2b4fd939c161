-- Each hop with a link below is mirrored there, by every hop that ever has the id that it names.
use Rattle.std.proofs.Common.{◌≡◌, ℕ, ◌≤◌, true, cond, List, [], ◌∷◌, Some, None, refl, sym, ap, subst, ◌∙◌, inl, inr, arith}
use Rattle.std.specs.FinMap as map
use Rattle.cip_base.specs.declared.triad.Triad.{Triad}
use Rattle.cip_segment.specs.Reading.{HopAt, hop_of}
use Rattle.cip_open.specs.Open.{Open as OpenRequest, open_bytes}
use Rattle.cip_open.specs.GoesOn.{lowered}
use Rattle.cip_hops.specs.declared.opening.Opening.{Opening}
use Rattle.cip_hops.specs.declared.opening.OwnIds.{OwnIds}
use Rattle.cip_hops.specs.declared.opening.HopUp.TheVariants.{Link as UpLink}
use Rattle.cip_hops.specs.declared.opening.HopDown.TheVariants.{Link as DownLink}
use Rattle.cip_hops.specs.declared.hop.Hop.{Hop}
use Rattle.cip_hops.specs.declared.hop.Held.TheVariants.{Open}
use Rattle.cip_hops.specs.Sides.{down_is_link}
use Rattle.cip_config.specs.declared.config.ModuleSettings.{ModuleSettings}
use Rattle.cip_event.specs.declared.event.Body.{Body}
use Rattle.cip_event.specs.declared.event.Body.TheVariants as bodies
use Rattle.cip_event.specs.declared.event.Event.TheVariants as events
use Rattle.cip_event.specs.declared.event.Output.{Output}
use Rattle.cip_event.specs.declared.event.Output.TheVariants as outputs
use Rattle.cip_laws.specs.Births.{Past, IsBirth}
use Rattle.cip_laws.specs.Histories.{Turn, state_after, IsHistory}
use Rattle.cip_world.specs.Mirrors.{IsOlder, Mirrors, IsMirrored}
use Rattle.cip_chassis.specs.Nodes.{Way, across as goes}
use Rattle.cip_world.specs.Journals.{Journal, Flight, part}
use Rattle.cip_world.specs.Runs.{IsModule, state_in, IsRun}
use Rattle.cip_laws.specs.Weights.{is_request, weight_in, weight}
use Rattle.cip_laws.specs.Turns.{Has, SomeTurn, Came, Gave}
use Rattle.cip_world.proofs.Arrivals.{way_in, Brought, came_brought, request_weighs}
use Rattle.cip_laws.proofs.Births.{held_born, born_once}
use Rattle.cip_world.proofs.Frames.{out_of, frame_gave, sender}
use Rattle.cip_laws.proofs.Joined.{OpenSent}
use Rattle.cip_laws.proofs.Numbers.{sent_once}
use Rattle.cip_laws.proofs.OpenedBelow.{HopOpened, hop_opened}
use Rattle.cip_world.proofs.Chassis.{Chassis}
use Rattle.cip_world.proofs.Moments.{run_older, past_older}
use Rattle.cip_world.proofs.Parts.{run_history}
use Rattle.cip_world.proofs.Successes.{AllAsk, Below, below}
use Rattle.cip_laws.proofs.Weighing.{weight_has, weight_gave}

-- a past turn, with the way back to the whole
pub past_in : (P : List Turn → Turn → Type 0) (F : Type 0) (turns : List Turn) → Past P turns
    → ((earlier : List Turn) (turn : Turn) → P earlier turn → ((Q : Turn → Type 0) → Q turn → SomeTurn Q turns)
    → ((R : List Turn → Turn → Type 0) → Past R earlier → Past R turns) → F) → F
past_in P F [] h f = absurd h
past_in P F (turn ∷ turns) (inl h) f = f turns turn h (λ Q q. inl q) (λ R r. inr r)
past_in P F (turn ∷ turns) (inr h) f = past_in P F turns h (λ earlier t p one all. f earlier t p (λ Q q. inr (one Q q)) (λ R r. inr (all R r)))

-- ---- one output of a kind

pub one_of : (w : Output → ℕ) (os : List Output) (x y : Output) → weight_in w os ≤ 1 → 1 ≤ w x → 1 ≤ w y → Has os x → Has os y → x ≡ y
one_of w [] x y most a b h k = absurd h
one_of w (o ∷ os) x y most a b (inl e) (inl f) = sym e ∙ f
one_of w (o ∷ os) x y most a b (inl e) (inr k) = let one = ap w e in let other = weight_has w os y k in absurd (omega (arith, one, other, most, a, b))
one_of w (o ∷ os) x y most a b (inr h) (inl f) = let one = ap w f in let other = weight_has w os x h in absurd (omega (arith, one, other, most, a, b))
one_of w (o ∷ os) x y most a b (inr h) (inr k) = one_of w os x y (omega (arith, most)) a b h k

pub one_given : (w : Output → ℕ) (turns : List Turn) (x y : Output) → weight w turns ≤ 1 → 1 ≤ w x → 1 ≤ w y → Gave turns x → Gave turns y → x ≡ y
one_given w [] x y most a b h k = absurd h
one_given w (turn ∷ turns) x y most a b (inl h) (inl k) = one_of w turn.outputs x y (omega (arith, most)) a b h k
one_given w (turn ∷ turns) x y most a b (inl h) (inr k) = let one = weight_has w turn.outputs x h in let other = weight_gave w turns y k in absurd
    (omega (arith, one, other, most, a, b))
one_given w (turn ∷ turns) x y most a b (inr h) (inl k) = let one = weight_has w turn.outputs y k in let other = weight_gave w turns x h in absurd
    (omega (arith, one, other, most, a, b))
one_given w (turn ∷ turns) x y most a b (inr h) (inr k) = one_given w turns x y (omega (arith, most)) a b h k

all_ask : (port n : ℕ) (from : List ℕ) (oo : OpenRequest) (turns : List Turn)
    → ((b : List ℕ) → Came (λ event. event ≡ events.Frame port from (bodies.Request n b)) turns → b ≡ open_bytes oo) → AllAsk port n from oo turns
all_ask port n from oo [] only = tt
all_ask port n from oo (turn ∷ turns) only = ((λ b e. only b (inl e)), all_ask port n from oo turns (λ b h. only b (inr h)))

-- ---- what was born below

-- this opening is the one below that was asked for h, whose frames come in there by this way
pub record Matches (there : Way) (h : Hop) (o : Opening) : Type 0 where
  pub own : ℕ
  pub own_is : h.ids.down ≡ Some own
  pub triad_is : o.triad ≡ h.opening.triad
  pub up_is : o.up ≡ UpLink there.port there.address own
  pub first : HopAt
  pub first_is : hop_of h.opening.path ≡ Some first
  pub path_is : o.path ≡ first.rest
  pub ot_size_is : o.ot_size ≡ h.opening.ot_size
  pub to_size_is : o.to_size ≡ h.opening.to_size
  pub class_is : o.class ≡ h.opening.class

-- the counterpart of a hop: a connection born below, under the id that the hop names
pub record Lower (t : Chassis) (j : Journal) (out : Way) (h : Hop) : Type 0 where
  pub there : Way
  pub across : goes t.plan out ≡ Some there
  pub config : ModuleSettings
  pub is_module : IsModule t.plan there.at config
  pub id : ℕ
  pub their_is : h.their_id ≡ Some id
  pub opening : Opening
  pub ids : OwnIds
  pub birth : Past (IsBirth config opening ids) (part there.at j)
  pub id_is : ids.up ≡ Some id
  pub matches : Matches there h opening

same_way : (a b : Way) → Some a ≡ Some b → a ≡ b
same_way a b e = cc

module _ (t : Chassis) (j k : Journal) (m : ℕ) (config : ModuleSettings) (run : IsRun t.plan j) (is : IsModule t.plan m config) (older : IsOlder k j)
    (q : Triad) (h : Hop) (port : ℕ) (address : List ℕ) (at : map.get (state_in config m k).hops.held q ≡ Some (Open h))
    (down : h.opening.down ≡ DownLink port address) where
  link : down_is_link h.opening.down ≡ true
  link = ap down_is_link down

  history : IsHistory config (part m j)
  history = run_history t.plan j m config run is

  -- with the turns of the request and of its success
  module _ (earlier : List Turn) (turn : Turn) (opened : HopOpened config h.opening h.ids h.their_id earlier turn)
      (one : (Q : Turn → Type 0) → Q turn → SomeTurn Q (part m j))
      (first : List Turn) (asking : Turn) (sent : OpenSent config opened.number opened.entry h.opening h.ids first asking)
      (too : (Q : Turn → Type 0) → Q asking → SomeTurn Q (part m j)) where
    abbrev n : ℕ
    n = opened.number

    abbrev own : ℕ
    own = (state_after config first).hops.next

    abbrev oo : OpenRequest
    oo = lowered sent.tells.o own sent.tells.rest

    below_is : DownLink port address ≡ DownLink sent.sending.port sent.sending.address
    below_is = sym down ∙ ap (λ (x : Opening). x.down) sent.tells.opening_is

    out_way : way_in m opened.entry.port opened.entry.address ≡ way_in m port address
    out_way =
        let e = below_is in
        let ports : sent.sending.port ≡ port = cc in
        let addresses : sent.sending.address ≡ address = cc in
        λ i. way_in m ((sent.port_is ∙ ports) i) ((sent.address_is ∙ addresses) i)

    brought : Brought t j m opened.entry.port opened.entry.address (bodies.Reply n opened.bytes)
    brought = came_brought t j m opened.entry.port opened.entry.address (bodies.Reply n opened.bytes) run
        (one (λ x. x.event ≡ events.Frame opened.entry.port opened.entry.address (bodies.Reply n opened.bytes)) opened.event_is)

    abbrev there : Way
    there = brought.flight.way

    across : goes t.plan (way_in m port address) ≡ Some there
    across = ap (goes t.plan) (sym out_way) ∙ t.back there (way_in m opened.entry.port opened.entry.address) brought.leads

    replier : (c : ModuleSettings) × IsModule t.plan there.at c
    replier = sender t.plan j brought.name brought.flight run brought.sent

    gave : Gave (part there.at j) (outputs.Send there.port there.address (bodies.Reply n opened.bytes))
    gave = subst (λ (b : Body). Gave (part there.at j) (outputs.Send there.port there.address b)) brought.body_is
        (frame_gave t.plan j brought.name brought.flight run brought.sent)

    gave_request : Gave (part m j) (outputs.Send sent.sending.port sent.sending.address (bodies.Request n (open_bytes oo)))
    gave_request = subst (λ (b : List ℕ). Gave (part m j) (outputs.Send sent.sending.port sent.sending.address (bodies.Request n b))) sent.tells.bytes_are
        (too (λ x. Has x.outputs (outputs.Send sent.sending.port sent.sending.address (bodies.Request n sent.sending.bytes))) sent.sent)

    -- the request that came there is the one that was sent
    only_that : (b : List ℕ) → Came (λ event. event ≡ events.Frame there.port there.address (bodies.Request n b)) (part there.at j) → b ≡ open_bytes oo
    only_that b came =
        let from = came_brought t j there.at there.port there.address (bodies.Request n b) run came in
        let way : from.flight.way ≡ way_in m opened.entry.port opened.entry.address =
        same_way from.flight.way (way_in m opened.entry.port opened.entry.address) (sym (t.back from.flight.way there from.leads) ∙ brought.leads) in
        let given : Gave (part m j) (out_of from.flight) = subst (λ (i : ℕ). Gave (part i j) (out_of from.flight)) (ap (λ (w : Way). w.at) way)
        (frame_gave t.plan j from.name from.flight run from.sent) in
        let other : Flight = record {
          way = record { at = m; port = sent.sending.port; address = sent.sending.address };
          body = bodies.Request n
              (open_bytes oo);
        } in
        let same : out_of from.flight ≡ outputs.Send sent.sending.port sent.sending.address (bodies.Request n (open_bytes oo)) =
        one_given (is_request n) (part m j) (out_of from.flight) (out_of other) (sent_once config n (part m j) history)
        (request_weighs n from.flight b from.body_is) (request_weighs n other (open_bytes oo) refl) given gave_request in
        let whole : outputs.Send from.flight.way.port from.flight.way.address (bodies.Request n b) ≡ outputs.Send sent.sending.port sent.sending.address
        (bodies.Request n (open_bytes oo)) =
        ap (λ (x : Body). outputs.Send from.flight.way.port from.flight.way.address x) (sym from.body_is) ∙ same in
        cc

    there_history : IsHistory replier.0 (part there.at j)
    there_history = run_history t.plan j there.at replier.0 run replier.1

    named : Below replier.0 there.port n there.address oo (part there.at j) opened.success
    named = below replier.0 there.port n there.address oo (part there.at j) there_history (all_ask there.port n there.address oo (part there.at j) only_that)
        opened.bytes opened.reply opened.success opened.read opened.general opened.success_is gave

    their : h.their_id ≡ Some opened.success.ot_id
    their = opened.their_is ∙ ap (λ b. cond b (Some opened.success.ot_id) None) link

    own_down : h.ids.down ≡ Some own
    own_down = ap (λ (x : OwnIds). x.down) sent.ids_are ∙ ap (λ b. cond b (Some own) None) link

    lower_by : Lower t j (way_in m port address) h
    lower_by = record {
      there = there;
      across = across;
      config = replier.0;
      is_module = replier.1;
      id = opened.success.ot_id;
      their_is = their;
      opening = named.opening;
      ids = named.ids;
      birth = named.birth;
      id_is = named.id_is;
      matches = subst (Matches there h) (sym named.opening_is) (record {
        own = own;
        own_is = own_down;
        triad_is = sym (ap (λ (x : Opening). x.triad) sent.tells.opening_is);
        up_is = refl;
        first = sent.tells.leads.hop;
        first_is = ap (λ (x : Opening). hop_of x.path) sent.tells.opening_is ∙ sent.tells.leads.first;
        path_is = sent.tells.leads.rest_is;
        ot_size_is = sym (ap (λ (x : Opening). x.ot_size) sent.tells.opening_is);
        to_size_is = sym (ap (λ (x : Opening). x.to_size) sent.tells.opening_is);
        class_is = sym (ap (λ (x : Opening). x.class) sent.tells.opening_is);
      });
    }

  -- a hop that stands at any moment has its counterpart below
  pub lower : Lower t j (way_in m port address) h
  lower =
      let past = past_older (HopOpened config h.opening h.ids h.their_id) m k j older
      (hop_opened config (part m k) (run_history t.plan k m config (run_older t.plan k j older run) is) q h at link) in
      past_in (HopOpened config h.opening h.ids h.their_id) (Lower t j (way_in m port address) h) (part m j) past
      (λ earlier turn opened one all. past_in (OpenSent config opened.number opened.entry h.opening h.ids) (Lower t j (way_in m port address) h) (part m j)
      (all (OpenSent config opened.number opened.entry h.opening h.ids) opened.sent)
      (λ first asking sent too rest. lower_by earlier turn opened one first asking sent too))

-- ---- at every moment

same_mirrors : (there : Way) (h g : Hop) (o : Opening) → g.opening ≡ o → g.ids.up ≡ h.their_id → Matches there h o → Mirrors there h g
same_mirrors there h g o same id x =
    let of : Matches there h g.opening = subst (Matches there h) (sym same) x in
    record {
      own = of.own;
      own_is = of.own_is;
      triad_is = of.triad_is;
      up_is = of.up_is;
      id_is = id;
      first = of.first;
      first_is = of.first_is;
      path_is = of.path_is;
      ot_size_is = of.ot_size_is;
      to_size_is = of.to_size_is;
      class_is = of.class_is;
    }

-- whatever has the id at any moment is that counterpart
pub only_lower : (t : Chassis) (j : Journal) (out : Way) (h : Hop) → IsRun t.plan j → (x : Lower t j out h) → (l : Journal) → IsOlder l j
    → (r : Triad) (g : Hop)
    → map.get (state_in x.config x.there.at l).hops.held r ≡ Some (Open g) → g.ids.up ≡ Some x.id → (g.opening ≡ x.opening) × (g.ids ≡ x.ids)
only_lower t j out h run x l older r g held id =
    let born = past_older (IsBirth x.config g.opening g.ids) x.there.at l j older
    (held_born x.config (part x.there.at l) (run_history t.plan l x.there.at x.config (run_older t.plan l j older run) x.is_module) r (Open g) held) in
    born_once x.config g.opening x.opening g.ids x.ids (part x.there.at j) x.id (run_history t.plan j x.there.at x.config run x.is_module) born x.birth
    (inl id) (inl x.id_is)

pub mirrored_by : (t : Chassis) (j : Journal) (out : Way) (h : Hop) → IsRun t.plan j → Lower t j out h → IsMirrored t.plan j out h
mirrored_by t j out h run x = record {
  there = x.there;
  across = x.across;
  config = x.config;
  is_module = x.is_module;
  id = x.id;
  their_is = x.their_is;
  only = λ l older r g held id.
      same_mirrors x.there h g x.opening (only_lower t j out h run x l older r g held id).0 (id ∙ sym x.their_is) x.matches;
}

pub mirrored : (t : Chassis) (j k : Journal) (m : ℕ) (config : ModuleSettings) → IsRun t.plan j → IsModule t.plan m config → IsOlder k j
    → (q : Triad) (h : Hop) (port : ℕ) (address : List ℕ)
    → map.get (state_in config m k).hops.held q ≡ Some (Open h) → h.opening.down ≡ DownLink port address → IsMirrored t.plan j (way_in m port address) h
mirrored t j k m config run is older q h port address at down =
    mirrored_by t j (way_in m port address) h run (lower t j k m config run is older q h port address at down)
