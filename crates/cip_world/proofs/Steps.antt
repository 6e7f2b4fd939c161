-- One step back along a connection: which connection of the neighbour gave the datum that came by a link.
use Rattle.std.proofs.Common.{◌≡◌, ℕ, ◌+◌, Bool, true, false, cond, List, [], ◌∷◌, Option, Some, None, refl, sym, ap, subst, ◌∙◌, inl, inr, arith}
use Rattle.std.specs.FinMap as map
use Rattle.std.specs.Option.{option_map_or}
use Rattle.cip_base.specs.declared.triad.Triad.{Triad}
use Rattle.cip_base.specs.declared.numbers.ModuleId.{ModuleId}
use Rattle.cip_segment.specs.Reading.{HopAt, hop_of}
use Rattle.cip_hops.specs.declared.opening.HopDown.TheVariants.{Link as DownLink}
use Rattle.cip_hops.specs.declared.opening.HopUp.TheVariants.{Link as UpLink}
use Rattle.cip_hops.specs.declared.opening.Opening.{Opening}
use Rattle.cip_hops.specs.declared.opening.OwnIds.{OwnIds}
use Rattle.cip_hops.specs.declared.hop.Hop.{Hop}
use Rattle.cip_hops.specs.declared.hop.Held.TheVariants.{Open}
use Rattle.cip_hops.specs.declared.hop.Side.{Side}
use Rattle.cip_hops.specs.declared.hop.Side.TheVariants.{Up, Down}
use Rattle.cip_hops.specs.Sides.{up_is_link, down_is_link}
use Rattle.cip_config.specs.declared.config.ModuleSettings.{ModuleSettings}
use Rattle.cip_event.specs.declared.event.Body.{Body}
use Rattle.cip_event.specs.declared.event.Body.TheVariants as bodies
use Rattle.cip_event.specs.declared.event.Output.{Output}
use Rattle.cip_event.specs.declared.event.Output.TheVariants as outputs
use Rattle.cip_laws.specs.Births.{Past, IsBirth, HasId}
use Rattle.cip_laws.specs.Histories.{Turn, state_after, IsHistory}
use Rattle.cip_laws.specs.Outputs.{is_data, DatumOf, GoesUp, Arrives, GoesDown, IsConsumed}
use Rattle.cip_routing.specs.State.{State}
use Rattle.cip_laws.proofs.Births.{held_born, born_once}
use Rattle.cip_chassis.specs.Plan.{Plan}
use Rattle.cip_chassis.specs.Nodes.{Way, across as goes}
use Rattle.cip_chassis.specs.Walk.{walk}
use Rattle.cip_world.specs.declared.journal.Entry.TheVariants.{Step}
use Rattle.cip_event.specs.declared.frame.FrameName.{FrameName}
use Rattle.cip_world.specs.declared.journal.Input.{Input}
use Rattle.cip_world.specs.Journals.{Journal, Flight, frame_at, part}
use Rattle.cip_world.specs.Mirrors.{IsOlder}
use Rattle.cip_world.specs.Runs.{IsModule, state_in, IsRun}
use Rattle.cip_world.proofs.Arrivals.{way_in}
use Rattle.cip_world.proofs.Chassis.{Chassis}
use Rattle.cip_world.proofs.Frames.{out_of}
use Rattle.cip_world.proofs.Given.{Given, Source, given}
use Rattle.cip_world.proofs.Leading.{leads_by, walk_on}
use Rattle.cip_world.proofs.Mirrored.{Matches, Lower, lower}
use Rattle.cip_world.proofs.Moments.{SentAt, sent_at, sent_has, before_that, run_older}
use Rattle.cip_world.proofs.Parts.{turn_of, part_here, same_module, run_history}
use Rattle.cip_world.proofs.Uppers.{HasUpper, upper}

-- ---- an id is of one side alone

id_apart : (next id : ℕ) (u d : Bool) → cond u (Some (next + cond d 1 0)) None ≡ Some id → cond d (Some next) None ≡ Some id → ⊥
id_apart next id true true e f = let a : next + cond true 1 0 ≡ id = cc in let b : next ≡ id = cc in omega (arith, a, b)
id_apart next id true false e f = cc
id_apart next id false d e f = cc

pub both_ids : (config : ModuleSettings) (o : Opening) (ids : OwnIds) (turns : List Turn) (id : ℕ) → Past (IsBirth config o ids) turns → ids.up ≡ Some id
    → ids.down ≡ Some id → ⊥
both_ids config o ids [] id past e f = past
both_ids config o ids (turn ∷ turns) id (inl b) e f =
    id_apart (state_after config turns).hops.next id (up_is_link o.up) (down_is_link o.down) (ap (λ (x : OwnIds). x.up) (sym b.ids_are) ∙ e)
    (ap (λ (x : OwnIds). x.down) (sym b.ids_are) ∙ f)
both_ids config o ids (turn ∷ turns) id (inr old) e f = both_ids config o ids turns id old e f

-- ---- the step that sent a datum

-- the newest step of a run is a turn of its module
pub turn_history : (t : Plan) (j : Journal) (n : ModuleId) (input : Input) (outs : List Output) → (run : IsRun t (Step n input outs ∷ j))
    → IsHistory run.1.config (turn_of run.1.event outs ∷ part n.0 j)
turn_history t j n input outs run =
    subst (IsHistory run.1.config) (part_here t n.0 n input outs j run.1 refl) (run_history t (Step n input outs ∷ j) n.0 run.1.config run run.1.is_module)

-- the step that sent the datum, and the connection there that gave it
pub record Giver (t : Chassis) (j : Journal) (f : FrameName) (x : Flight) : Type 0 where
  pub sent : SentAt j f x
  pub run : IsRun t.plan (Step sent.at sent.input sent.outs ∷ sent.before)
  pub gave : Given (state_in run.1.config sent.at.0 sent.before) run.1.event (out_of x)

pub giver : (t : Chassis) (j : Journal) (f : FrameName) (x : Flight) → IsRun t.plan j → frame_at j f ≡ Some x → is_data x.body ≡ true → Giver t j f x
giver t j f x run h data_ =
    let s = sent_at j f x h in
    let then : IsRun t.plan (Step s.at s.input s.outs ∷ s.before) = run_older t.plan (Step s.at s.input s.outs ∷ s.before) j s.older run in
    record {
      sent = s;
      run = then;
      gave = given then.1.config (part s.at.0 s.before) (turn_of then.1.event s.outs) (turn_history t.plan s.before s.at s.input s.outs then) (out_of x) data_
          (sent_has j f x s);
    }

-- ---- from above

-- the datum was given down by the connection that this one is the counterpart of, and its walk goes on here
pub record FromAbove (t : Chassis) (j : Journal) (f : FrameName) (x : Flight) (g : ℕ) (here : Way) (hop : Hop) (bytes : List ℕ) : Type 0 where
  pub sent : SentAt j f x
  pub run : IsRun t.plan (Step sent.at sent.input sent.outs ∷ sent.before)
  pub above : Hop
  pub stands : map.get (state_in run.1.config sent.at.0 sent.before).hops.held above.opening.triad ≡ Some (Open above)
  pub source : Source (state_in run.1.config sent.at.0 sent.before) run.1.event Down above bytes
  pub matches : Matches here above hop.opening
  pub walk_is : walk t.plan sent.at.0 above.opening.path ≡ walk t.plan g hop.opening.path

-- the datum was given up by the counterpart below, where the walk of this connection goes on
pub record FromBelow (t : Chassis) (j : Journal) (f : FrameName) (x : Flight) (g : ℕ) (hop : Hop) (bytes : List ℕ) : Type 0 where
  pub sent : SentAt j f x
  pub run : IsRun t.plan (Step sent.at sent.input sent.outs ∷ sent.before)
  pub below : Hop
  pub port : ℕ
  pub to : List ℕ
  pub their_id : ℕ
  pub stands : map.get (state_in run.1.config sent.at.0 sent.before).hops.held below.opening.triad ≡ Some (Open below)
  pub source : Source (state_in run.1.config sent.at.0 sent.before) run.1.event Up below bytes
  pub up_is : below.opening.up ≡ UpLink port to their_id
  pub out_is : out_of x ≡ outputs.Send port to (bodies.Data their_id bytes)
  pub triad_is : below.opening.triad ≡ hop.opening.triad
  pub walk_is : walk t.plan g hop.opening.path ≡ walk t.plan sent.at.0 below.opening.path

rest_same : (a b : HopAt) → Some a ≡ Some b → a.rest ≡ b.rest
rest_same a b e = cc

some_way : (a b : Way) → Some a ≡ Some b → a ≡ b
some_way a b e = cc

send_parts : (p q : ℕ) (a c : List ℕ) (i k : ℕ) (b d : List ℕ) → outputs.Send p a (bodies.Data i b) ≡ outputs.Send q c (bodies.Data k d)
    → (p ≡ q) × (a ≡ c) × (i ≡ k) × (b ≡ d)
send_parts p q a c i k b d e = (cc, cc, cc, cc)

module _ (t : Chassis) (j : Journal) (run : IsRun t.plan j) (g : ℕ) (config : ModuleSettings) (is : IsModule t.plan g config) (q : Triad) (hop : Hop)
    (at : map.get (state_in config g j).hops.held q ≡ Some (Open hop)) (port id : ℕ) (from bytes : List ℕ) (f : FrameName) (x : Flight)
    (leads : goes t.plan x.way ≡ Some (way_in g port from)) (body_is : x.body ≡ bodies.Data id bytes) (s : SentAt j f x)
    (then : IsRun t.plan (Step s.at s.input s.outs ∷ s.before)) where
  abbrev state : State
  state = state_in then.1.config s.at.0 s.before

  older : IsOlder s.before j
  older = before_that (Step s.at s.input s.outs) s.before j s.older

  out_is : out_of x ≡ outputs.Send x.way.port x.way.address (bodies.Data id bytes)
  out_is = ap (λ (b : Body). outputs.Send x.way.port x.way.address b) body_is

  born : Past (IsBirth config hop.opening hop.ids) (part g j)
  born = held_born config (part g j) (run_history t.plan j g config run is) q (Open hop) at

  -- the frame left by this way
  out_way : (p : ℕ) (a : List ℕ) → x.way.port ≡ p → x.way.address ≡ a → way_in s.at.0 p a ≡ x.way
  out_way p a ports addresses = λ i. record { at = s.at_is i; port = sym ports i; address = sym addresses i }

  -- what a connection goes down to, which it names by this id
  module _ (h : Hop) (p : ℕ) (a b : List ℕ) (stands : map.get state.hops.held h.opening.triad ≡ Some (Open h)) (down : h.opening.down ≡ DownLink p a)
      (out : out_of x ≡ outputs.Send p a (bodies.Data (option_map_or (λ i. i) h.their_id 0) b)) where
    parts : (x.way.port ≡ p) × (x.way.address ≡ a) × (id ≡ option_map_or (λ i. i) h.their_id 0) × (bytes ≡ b)
    parts = send_parts x.way.port p x.way.address a id (option_map_or (λ i. i) h.their_id 0) bytes b (sym out_is ∙ out)

    low : Lower t j (way_in s.at.0 p a) h
    low = lower t j s.before s.at.0 then.1.config run then.1.is_module older h.opening.triad h p a stands down

    place : low.there ≡ way_in g port from
    place = some_way low.there (way_in g port from) (sym low.across ∙ ap (goes t.plan) (out_way p a parts.0 parts.1) ∙ leads)

    here : low.there.at ≡ g
    here = ap (λ (w : Way). w.at) place

    config_is : low.config ≡ config
    config_is = same_module t.plan g low.there.at low.config config here low.is_module is

    id_is : low.id ≡ id
    id_is = ap (λ (i : Option ℕ). option_map_or (λ n. n) i 0) (sym low.their_is) ∙ sym parts.2

    birth : Past (IsBirth config low.opening low.ids) (part g j)
    birth = subst (λ (c : ModuleSettings). Past (IsBirth c low.opening low.ids) (part g j)) config_is
        (subst (λ (m : ℕ). Past (IsBirth low.config low.opening low.ids) (part m j)) here low.birth)

    same : HasId hop.ids id → (hop.opening ≡ low.opening) × (hop.ids ≡ low.ids)
    same has = born_once config hop.opening low.opening hop.ids low.ids (part g j) id (run_history t.plan j g config run is) born birth has
        (inl (low.id_is ∙ ap (λ (i : ℕ). Some i) id_is))

    walks : (o : Opening) → Matches (way_in g port from) h o → walk t.plan s.at.0 h.opening.path ≡ walk t.plan g o.path
    walks o m =
        let first = leads_by then.1.config (part s.at.0 s.before) (run_history t.plan s.before s.at.0 then.1.config then.0 then.1.is_module) h.opening.triad
        (Open h) p a stands down in
        let one : m.first.rest ≡ first.first.rest = rest_same m.first first.first (sym m.first_is ∙ first.first_is) in
        walk_on t.plan s.at.0 p a (way_in g port from) h.opening.path o.path first (m.path_is ∙ one)
        (ap (goes t.plan) (out_way p a parts.0 parts.1) ∙ leads)

    -- under its up id a connection has data of its counterpart above
    down_to_up : Source state then.1.event Down h b → hop.ids.up ≡ Some id → FromAbove t j f x g (way_in g port from) hop bytes
    down_to_up source up_id =
        let one = same (inl up_id) in
        let m : Matches (way_in g port from) h hop.opening = subst (λ (w : Way). Matches w h hop.opening) place
        (subst (Matches low.there h) (sym one.0) low.matches) in
        record {
          sent = s;
          run = then;
          above = h;
          stands = stands;
          source = subst (Source state then.1.event Down h) (sym parts.3) source;
          matches = m;
          walk_is = walks hop.opening m;
        }

    -- under its down id nothing comes from above
    down_to_down : hop.ids.down ≡ Some id → ⊥
    down_to_down down_id =
        let one = same (inr down_id) in
        both_ids config hop.opening hop.ids (part g j) id born (ap (λ (i : OwnIds). i.up) one.1 ∙ low.id_is ∙ ap (λ (i : ℕ). Some i) id_is) down_id

  -- what a connection goes up to, under the id that it was told
  module _ (h : Hop) (p c : ℕ) (a b : List ℕ) (stands : map.get state.hops.held h.opening.triad ≡ Some (Open h)) (up_is : h.opening.up ≡ UpLink p a c)
      (out : out_of x ≡ outputs.Send p a (bodies.Data c b)) where
    sides : (x.way.port ≡ p) × (x.way.address ≡ a) × (id ≡ c) × (bytes ≡ b)
    sides = send_parts x.way.port p x.way.address a id c bytes b (sym out_is ∙ out)

    high : HasUpper t j (way_in s.at.0 p a) h.opening c
    high = upper t j s.before s.at.0 then.1.config run then.1.is_module older h.opening.triad (Open h) p c a stands up_is

    there : high.above ≡ way_in g port from
    there = some_way high.above (way_in g port from) (sym high.across ∙ ap (goes t.plan) (out_way p a sides.0 sides.1) ∙ leads)

    at_g : high.above.at ≡ g
    at_g = ap (λ (w : Way). w.at) there

    own_config : high.config ≡ config
    own_config = same_module t.plan g high.above.at high.config config at_g high.is_module is

    own_birth : Past (IsBirth config high.opening high.ids) (part g j)
    own_birth = subst (λ (c : ModuleSettings). Past (IsBirth c high.opening high.ids) (part g j)) own_config
        (subst (λ (m : ℕ). Past (IsBirth high.config high.opening high.ids) (part m j)) at_g high.birth)

    own_id : high.ids.down ≡ Some id
    own_id = high.own_is ∙ ap (λ (i : ℕ). Some i) (sym sides.2)

    own : HasId hop.ids id → (hop.opening ≡ high.opening) × (hop.ids ≡ high.ids)
    own has = born_once config hop.opening high.opening hop.ids high.ids (part g j) id (run_history t.plan j g config run is) born own_birth has (inr own_id)

    -- under its up id nothing comes from below
    up_to_up : hop.ids.up ≡ Some id → ⊥
    up_to_up up_id =
        let one = own (inl up_id) in
        both_ids config hop.opening hop.ids (part g j) id born up_id (ap (λ (i : OwnIds). i.down) one.1 ∙ own_id)

    -- under its down id a connection has data of its counterpart below
    up_to_down : Source state then.1.event Up h b → hop.ids.down ≡ Some id → hop.opening.down ≡ DownLink port from → FromBelow t j f x g hop bytes
    up_to_down source down_id down =
        let one = own (inr down_id) in
        let first = leads_by config (part g j) (run_history t.plan j g config run is) q (Open hop) port from at down in
        let path : hop_of hop.opening.path ≡ Some high.first = ap (λ (o : Opening). hop_of o.path) one.0 ∙ high.first_is in
        let back : goes t.plan (way_in g port from) ≡ Some (way_in s.at.0 p a) = t.back (way_in s.at.0 p a) (way_in g port from)
        (ap (goes t.plan) (out_way p a sides.0 sides.1) ∙ leads) in
        record {
          sent = s;
          run = then;
          below = h;
          port = p;
          to = a;
          their_id = c;
          stands = stands;
          source = subst (Source state then.1.event Up h) (sym sides.3) source;
          up_is = up_is;
          out_is = out ∙ ap (λ (d : List ℕ). outputs.Send p a (bodies.Data c d)) (sym sides.3);
          triad_is = sym high.triad_is ∙ ap (λ (o : Opening). o.triad) (sym one.0);
          walk_is = walk_on t.plan g port from (way_in s.at.0 p a) hop.opening.path h.opening.path first
              (high.path_is ∙ rest_same high.first first.first (sym path ∙ first.first_is)) back;
        }

  by_up_id : Given state then.1.event (out_of x) → hop.ids.up ≡ Some id → FromAbove t j f x g (way_in g port from) hop bytes
  by_up_id v up_id = cases v.of
    where
      cases : DatumOf v.hop v.side v.bytes (out_of x) → FromAbove t j f x g (way_in g port from) hop bytes
      cases (GoesDown p a side down out) = down_to_up v.hop p a v.bytes v.stands down out
          (subst (λ (d : Side). Source state then.1.event d v.hop v.bytes) side v.source) up_id
      cases (GoesUp p a c side up out) = absurd (up_to_up v.hop p c a v.bytes v.stands up out up_id)
      cases (Arrives op side up out) = absurd (cc)
      cases (IsConsumed config consume produce side down out) = absurd (cc)

  by_down_id : Given state then.1.event (out_of x) → hop.ids.down ≡ Some id → hop.opening.down ≡ DownLink port from → FromBelow t j f x g hop bytes
  by_down_id v down_id link = cases v.of
    where
      cases : DatumOf v.hop v.side v.bytes (out_of x) → FromBelow t j f x g hop bytes
      cases (GoesDown p a side down out) = absurd (down_to_down v.hop p a v.bytes v.stands down out down_id)
      cases (GoesUp p a c side up out) = up_to_down v.hop p c a v.bytes v.stands up out
          (subst (λ (d : Side). Source state then.1.event d v.hop v.bytes) side v.source) down_id link
      cases (Arrives op side up out) = absurd (cc)
      cases (IsConsumed config consume produce side down out) = absurd (cc)

-- the frame of a datum that came to module g
pub record DatumFrame (t : Chassis) (j : Journal) (f : FrameName) (g port id : ℕ) (from bytes : List ℕ) : Type 0 where
  pub flight : Flight
  pub sent : frame_at j f ≡ Some flight
  pub leads : goes t.plan flight.way ≡ Some (way_in g port from)
  pub body_is : flight.body ≡ bodies.Data id bytes

-- a datum that came under the up id of a connection was given down by its counterpart above
pub from_above : (t : Chassis) (j : Journal) (run : IsRun t.plan j) (g : ℕ) (config : ModuleSettings) (is : IsModule t.plan g config) (q : Triad) (hop : Hop)
    → map.get (state_in config g j).hops.held q ≡ Some (Open hop) → (port id : ℕ) (from bytes : List ℕ) (f : FrameName)
    → (x : DatumFrame t j f g port id from bytes)
    → hop.ids.up ≡ Some id → FromAbove t j f x.flight g (way_in g port from) hop bytes
from_above t j run g config is q hop at port id from bytes f x up_id =
    let who = giver t j f x.flight run x.sent (ap is_data x.body_is) in
    by_up_id t j run g config is q hop at port id from bytes f x.flight x.leads x.body_is who.sent who.run who.gave up_id

-- a datum that came under the down id of a connection was given up by its counterpart below
pub from_below : (t : Chassis) (j : Journal) (run : IsRun t.plan j) (g : ℕ) (config : ModuleSettings) (is : IsModule t.plan g config) (q : Triad) (hop : Hop)
    → map.get (state_in config g j).hops.held q ≡ Some (Open hop) → (port id : ℕ) (from bytes : List ℕ) (f : FrameName)
    → (x : DatumFrame t j f g port id from bytes)
    → hop.ids.down ≡ Some id → hop.opening.down ≡ DownLink port from → FromBelow t j f x.flight g hop bytes
from_below t j run g config is q hop at port id from bytes f x down_id down =
    let who = giver t j f x.flight run x.sent (ap is_data x.body_is) in
    by_down_id t j run g config is q hop at port id from bytes f x.flight x.leads x.body_is who.sent who.run who.gave down_id down
