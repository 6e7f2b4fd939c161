-- An unbroken chain carries a datum from its op to its end.
use Rattle.std.proofs.Common.{◌≡◌, ℕ, zero, suc, ◌<◌, ◌≤◌, Bool, true, false, cond, List, [], ◌∷◌, Option, Some, None, refl, sym, ap, subst, ◌∙◌, inl, arith}
use Rattle.std.proofs.Common.{eqb, length, is_some}
use Rattle.std.specs.FinMap as map
use Rattle.std.specs.Prelude.{slice_get}
use Rattle.std.specs.Option.{option_map_or, option_and_then}
use Rattle.std.specs.Str.{bytes_eq}
use Rattle.std.proofs.lemmas.Bool.{and_parts, and_from, eqb-true, eq-eqb}
use Rattle.std.proofs.lemmas.Slice.Eq.{bytes_eq-Decides}
use Rattle.cip_base.specs.Triads.{triad_cmp}
use Rattle.cip_base.specs.declared.numbers.ModuleId.{ModuleId}
use Rattle.cip_base.specs.declared.triad.Triad.{Triad}
use Rattle.cip_base.proofs.Triads.{triads_total}
use Rattle.cip_base.proofs.Views.{find-only}
use Rattle.cip_hops.specs.declared.opening.HopDown.{HopDown}
use Rattle.cip_hops.specs.declared.opening.HopDown.TheVariants.{Link as DownLink, End}
use Rattle.cip_hops.specs.declared.opening.HopUp.TheVariants.{Link as UpLink}
use Rattle.cip_hops.specs.declared.opening.Opening.{Opening}
use Rattle.cip_hops.specs.declared.opening.OwnIds.{OwnIds}
use Rattle.cip_hops.specs.declared.hop.Hop.{Hop}
use Rattle.cip_hops.specs.declared.hop.Held.{Held}
use Rattle.cip_hops.specs.declared.hop.Held.TheVariants.{Opening as IsOpening, Open}
use Rattle.cip_hops.specs.declared.hop.Side.TheVariants.{Down}
use Rattle.cip_hops.specs.Sides.{up_is}
use Rattle.cip_hops.specs.Hops.{as_hop, is_hop, is_id, is_hop_by_up, hop_by_up, hop_by_op}
use Rattle.cip_hops.proofs.Steps.{triads_apart}
use Rattle.cip_config.specs.declared.config.ModuleSettings.{ModuleSettings}
use Rattle.cip_routing.specs.CommandRows as rows
use Rattle.cip_event.specs.declared.event.Body.{Body}
use Rattle.cip_event.specs.declared.event.Body.TheVariants as bodies
use Rattle.cip_event.specs.declared.event.Command.TheVariants as commands
use Rattle.cip_event.specs.declared.event.Event.TheVariants as events
use Rattle.cip_event.specs.declared.event.Output.{Output}
use Rattle.cip_event.specs.declared.event.Output.TheVariants as outputs
use Rattle.cip_event.specs.declared.event.Refused.TheVariants as refused
use Rattle.cip_laws.specs.Changes.{SameCore}
use Rattle.cip_config.specs.Config.{port_of}
use Rattle.cip_routing.specs.Effects.{outputs_of, datum_down, datum_by}
use Rattle.cip_routing.specs.State.{State}
use Rattle.cip_routing.specs.Table.{refused_effects, entered_effects, enter_effects, table_step}
use Rattle.cip_laws.specs.Turns.{Has}
use Rattle.cip_laws.proofs.Births.{held_born, born_once}
use Rattle.cip_laws.proofs.DataMet.{goes_down, goes_entered}
use Rattle.cip_laws.proofs.Triads.{HasOwnTriads, own_triads}
use Rattle.cip_laws.proofs.Turns.{Turned, turned}
use Rattle.cip_chassis.specs.Plan.{Plan}
use Rattle.cip_chassis.specs.Nodes.{Way, across as goes}
use Rattle.cip_world.specs.declared.journal.Entry.TheVariants.{Step}
use Rattle.cip_world.specs.declared.journal.Input.{Input}
use Rattle.cip_world.specs.declared.journal.Input.TheVariants as inputs
use Rattle.cip_world.specs.Chains.{Member, HasHop, IsNextTo, GoesToEnd, GoesOnBy, IsChain, last_of, IsDelivery, AreDeliveries, IsHeld, IsKept, AreKept}
use Rattle.cip_world.specs.Chains.{IsTakenBy}
use Rattle.cip_world.specs.Entering.{before_entry, IsTaken, IsEntered}
use Rattle.cip_world.specs.Journals.{Journal, Flight, entry_at, part}
use Rattle.cip_world.specs.Mirrors.{IsOlder}
use Rattle.cip_world.specs.Runs.{IsModule, IsArrival, IsRun, state_in}
use Rattle.cip_world.proofs.Arrivals.{way_in}
use Rattle.cip_world.proofs.Chassis.{Chassis}
use Rattle.cip_world.proofs.Frames.{out_of}
use Rattle.cip_world.proofs.Keeping.{Still, still}
use Rattle.cip_world.proofs.Leading.{port_there}
use Rattle.cip_world.proofs.Lines.{frame_place}
use Rattle.cip_world.proofs.Mirrored.{Lower, lower}
use Rattle.cip_world.proofs.Moments.{AtEntry, at_number, number_at, before_that, itself, older_length, older_trans, run_older, sent_at}
use Rattle.cip_world.proofs.Parts.{same_module, run_history}
use Rattle.cip_world.proofs.Rooted.{before_at, frame_later}

-- ---- one connection has an up id

is_itself : (n : ℕ) → eqb n n ≡ true
is_itself n = eq-eqb n n refl

passes_up : (id port own : ℕ) (from : List ℕ) (hop : Hop) → hop.ids.up ≡ Some id → hop.opening.up ≡ UpLink port from own → is_hop_by_up id port from hop ≡ true
passes_up id port own from hop ids up =
    and_from (is_id id hop.ids.up) (up_is port from hop.opening.up)
    (ap (is_id id) ids ∙ is_itself id)
    (ap (up_is port from) up ∙ and_from (eqb port port) (bytes_eq from from) (is_itself port) ((bytes_eq-Decides from from).1 refl))

id_of : (id : ℕ) (own : Option ℕ) → is_id id own ≡ true → own ≡ Some id
id_of id None t = absurd (cc)
id_of id (Some k) t = ap (λ (i : ℕ). Some i) (eqb-true k id t)

module _ (t : Plan) (j : Journal) (m : ℕ) (config : ModuleSettings) (run : IsRun t j) (is : IsModule t m config) (hop : Hop)
    (at : map.get (state_in config m j).hops.held hop.opening.triad ≡ Some (Open hop)) (id port own : ℕ) (from : List ℕ) (ids : hop.ids.up ≡ Some id)
    (up : hop.opening.up ≡ UpLink port from own) where
  abbrev state : State
  state = state_in config m j

  triads : HasOwnTriads state
  triads = own_triads config (part m j) (run_history t j m config run is)

  only : (r : Triad) (y : Held) → map.get state.hops.held r ≡ Some y → is_hop (is_hop_by_up id port from) y ≡ true → r ≡ hop.opening.triad
  only r (IsOpening o i) there pass = absurd (cc)
  only r (Open g) there pass =
      let test = and_parts (is_id id g.ids.up) (up_is port from g.opening.up) pass in
      let h = run_history t j m config run is in
      let same = born_once config g.opening hop.opening g.ids hop.ids (part m j) id h (held_born config (part m j) h r (Open g) there)
      (held_born config (part m j) h hop.opening.triad (Open hop) at) (inl (id_of id g.ids.up test.0)) (inl ids) in
      sym (triads r (Open g) there) ∙ ap (λ (o : Opening). o.triad) same.0

  -- what has the id there is found by it
  pub found_up : hop_by_up state.hops id port from ≡ Some hop
  found_up =
      ap (option_and_then (λ (e : Triad × Held). as_hop e.1))
      (find-only triad_cmp triads_total triads_apart state.hops.held (λ e. is_hop (is_hop_by_up id port from) e.1) hop.opening.triad (Open hop) at
      (passes_up id port own from hop ids up) only)

-- ---- the datum of an entry

-- entry i is a step of the member's module, and gives the datum by its connection and nothing else
pub record GivesDown (j : Journal) (i : ℕ) (x : Member) (bytes : List ℕ) : Type 0 where
  pub at : ModuleId
  pub input : Input
  pub is : entry_at j i ≡ Some (Step at input (datum_by Down x.hop bytes ∷ []))
  pub at_is : at.0 ≡ x.at
  pub sized : length bytes ≡ x.hop.opening.ot_size

same_down : (h g : Hop) (bytes : List ℕ) → SameCore (Open h) (Open g) → datum_by Down g bytes ≡ datum_by Down h bytes
same_down h g bytes core =
    ap (λ (d : HopDown). datum_down g d bytes) (sym (ap (λ (o : Opening). o.down) core.0))
    ∙ by_side h.opening.down
  where
    by_side : (d : HopDown) → datum_down g d bytes ≡ datum_down h d bytes
    by_side (DownLink port address) = ap (λ (i : Option ℕ). outputs.Send port address (bodies.Data (option_map_or (λ n. n) i 0) bytes)) (sym core.2)
    by_side (End config consume produce) = ap (λ (o : Opening). outputs.Consumed o.triad consume bytes) (sym core.0)

one_output : (a b : Output) (i : ℕ) → slice_get (a ∷ []) i ≡ Some b → a ≡ b
one_output a b zero e = cc
one_output a b (suc i) e = absurd (cc)

send_parts : (p q : ℕ) (a c : List ℕ) (b d : Body) → outputs.Send p a b ≡ outputs.Send q c d → (p ≡ q) × (a ≡ c) × (b ≡ d)
send_parts p q a c b d e = (cc, cc, cc)

-- the frame that such an entry sent
module _ (t : Chassis) (j : Journal) (i k : ℕ) (x : Member) (bytes : List ℕ) (gives : GivesDown j i x bytes) (d : IsDelivery j i k) (port : ℕ)
    (address : List ℕ)
    (down : x.hop.opening.down ≡ DownLink port address) where
  sent_is : out_of d.flight ≡ outputs.Send port address (bodies.Data (option_map_or (λ n. n) x.hop.their_id 0) bytes)
  sent_is =
      let place = frame_place j i gives.at gives.input (datum_by Down x.hop bytes ∷ []) gives.is d.name
      (record { flight = d.flight; sent = d.sent; data_ = d.datum }) d.from_there in
      sym (one_output (datum_by Down x.hop bytes) (out_of d.flight) d.name.output place) ∙ ap (λ (o : HopDown). datum_down x.hop o bytes) down

  parts : (d.flight.way.port ≡ port) × (d.flight.way.address ≡ address) × (d.flight.body ≡ bodies.Data (option_map_or (λ n. n) x.hop.their_id 0) bytes)
  parts = send_parts d.flight.way.port port d.flight.way.address address d.flight.body (bodies.Data (option_map_or (λ n. n) x.hop.their_id 0) bytes) sent_is

  sender_at : d.flight.way.at ≡ x.at
  sender_at =
      let s = sent_at j d.name d.flight d.sent in
      let both : Some (Step s.at s.input s.outs) ≡ Some (Step gives.at gives.input (datum_by Down x.hop bytes ∷ [])) =
      sym (number_at (Step s.at s.input s.outs) s.before j s.older) ∙ ap (entry_at j) (s.number ∙ d.from_there) ∙ gives.is in
      sym s.at_is ∙ ap (λ (n : ModuleId). n.0) (step_at s.at gives.at s.input gives.input s.outs (datum_by Down x.hop bytes ∷ []) both) ∙ gives.at_is
    where
      step_at : (a b : ModuleId) (n e : Input) (o p : List Output) → Some (Step a n o) ≡ Some (Step b e p) → a ≡ b
      step_at a b n e o p h = cc

  pub way_is : d.flight.way ≡ way_in x.at port address
  way_is = λ n. record { at = sender_at n; port = parts.0 n; address = parts.1 n }

  pub body_is : d.flight.body ≡ bodies.Data (option_map_or (λ n. n) x.hop.their_id 0) bytes
  body_is = parts.2

-- ---- one delivery

-- the arrival of a delivery, and the moments around it
pub record Delivered (t : Chassis) (j : Journal) (i k : ℕ) (d : IsDelivery j i k) : Type 0 where
  pub before : Journal
  pub older : IsOlder (Step d.at (inputs.Frame d.port d.from d.name) d.outs ∷ before) j
  pub number : length before ≡ k
  pub run : IsRun t.plan (Step d.at (inputs.Frame d.port d.from d.name) d.outs ∷ before)
  pub leads : goes t.plan d.flight.way ≡ Some (way_in d.at.0 d.port d.from)
  pub event_is : run.1.event ≡ events.Frame d.port d.from d.flight.body
  pub sender : IsOlder (before_entry j i) before
  pub later : i < k

some_flight : (a b : Flight) → Some a ≡ Some b → a ≡ b
some_flight a b e = cc

pub delivered : (t : Chassis) (j : Journal) (i k : ℕ) → IsRun t.plan j → (d : IsDelivery j i k) → Delivered t j i k d
delivered t j i k run d =
    let e = at_number j k (Step d.at (inputs.Frame d.port d.from d.name) d.outs) d.is in
    let then : IsRun t.plan (Step d.at (inputs.Frame d.port d.from d.name) d.outs ∷ e.before) = run_older t.plan
    (Step d.at (inputs.Frame d.port d.from d.name) d.outs ∷ e.before) j e.older run in
    let old = before_that (Step d.at (inputs.Frame d.port d.from d.name) d.outs) e.before j e.older in
    by_arrival e then old then.1.given
  where
    by_arrival : (e : AtEntry j k (Step d.at (inputs.Frame d.port d.from d.name) d.outs))
        → (then : IsRun t.plan (Step d.at (inputs.Frame d.port d.from d.name) d.outs ∷ e.before))
        → IsOlder e.before j → IsArrival t.plan e.before d.name d.at.0 d.port d.from then.1.event → Delivered t j i k d
    by_arrival e then old a =
        let same = some_flight a.waits.flight d.flight (sym (frame_later e.before j d.name a.waits.flight old a.waits.sent) ∙ d.sent) in
        let s = sent_at e.before d.name a.waits.flight a.waits.sent in
        let long = older_length (Step s.at s.input s.outs ∷ s.before) e.before s.older in
        let number = s.number in
        let of = d.from_there in
        let last = e.number in
        let moment : before_entry j i ≡ s.before =
        ap (before_entry j) (sym (s.number ∙ d.from_there))
        ∙ before_at (Step s.at s.input s.outs) s.before j (older_trans (Step s.at s.input s.outs ∷ s.before) e.before j s.older old) in
        record {
          before = e.before;
          older = e.older;
          number = e.number;
          run = then;
          leads = ap (λ (f : Flight). goes t.plan f.way) (sym same) ∙ a.waits.leads ∙ ap (λ (w : Way). Some w) a.here;
          event_is = a.event_is ∙ ap (λ (f : Flight). events.Frame d.port d.from f.body) same;
          sender = subst (λ (x : Journal). IsOlder x e.before) (sym moment) (before_that (Step s.at s.input s.outs) s.before e.before s.older);
          later = omega (arith, long, number, of, last);
        }

some_way : (a b : Way) → Some a ≡ Some b → a ≡ b
some_way a b e = cc

module _ (t : Chassis) (j : Journal) (run : IsRun t.plan j) (c : Journal) (c_old : IsOlder c j) (x y : Member) (has : HasHop t.plan c x)
    (next : IsNextTo t.plan c x y) (i k last : ℕ) (bytes : List ℕ)
    (gives : GivesDown j i x bytes) (after : IsOlder c (before_entry j i)) (d : IsDelivery j i k) (kept : IsKept t.plan j (length c) last y)
    (bound : k ≤ last) where
  low : Lower t c (way_in x.at next.port next.address) x.hop
  low = lower t c c x.at has.config (run_older t.plan c j c_old run) has.is_module
      (itself c) x.hop.opening.triad x.hop next.port next.address has.stands next.down_is

  arrival : Delivered t j i k d
  arrival = delivered t j i k run d

  abbrev config : ModuleSettings
  config = arrival.run.1.config

  abbrev here : State
  here = state_in config d.at.0 arrival.before

  is_module : IsModule t.plan d.at.0 config
  is_module = arrival.run.1.is_module

  older : IsOlder arrival.before j
  older = before_that (Step d.at (inputs.Frame d.port d.from d.name) d.outs) arrival.before j arrival.older

  since : IsOlder c arrival.before
  since = older_trans c (before_entry j i) arrival.before after arrival.sender

  there_is : next.there ≡ way_in d.at.0 d.port d.from
  there_is =
      some_way next.there (way_in d.at.0 d.port d.from)
      (sym next.across ∙ ap (goes t.plan) (sym (way_is t j i k x bytes gives d next.port next.address next.down_is)) ∙ arrival.leads)

  place : y.at ≡ d.at.0
  place = sym next.at_is ∙ ap (λ (w : Way). w.at) there_is

  -- the connection as it stands when the datum comes
  there : Still config d.at.0 arrival.before y.hop.opening.triad y.hop
  there =
      still t.plan c arrival.before d.at.0 config (run_older t.plan arrival.before j older run) is_module since y.hop.opening.triad y.hop stands
      (λ l old long. held_at (kept l (older_trans l arrival.before j old older) long (short l old)))
    where
      stands : map.get (state_in config d.at.0 c).hops.held y.hop.opening.triad ≡ Some (Open y.hop)
      stands =
          let own = same_module t.plan d.at.0 y.at next.has.config config place next.has.is_module is_module in
          subst (λ (s : ModuleSettings). map.get (state_in s d.at.0 c).hops.held y.hop.opening.triad ≡ Some (Open y.hop)) own
          (subst (λ (m : ℕ). map.get (state_in next.has.config m c).hops.held y.hop.opening.triad ≡ Some (Open y.hop)) place next.has.stands)

      short : (l : Journal) → IsOlder l arrival.before → length l ≤ last
      short l old = let less = older_length l arrival.before old in let number = arrival.number in let most = bound in omega (arith, less, number, most)

      held_at : {l : Journal} → IsHeld t.plan l y → (h : Held) × (map.get (state_in config d.at.0 l).hops.held y.hop.opening.triad ≡ Some h)
      held_at {l} h =
          let own = same_module t.plan d.at.0 y.at h.config config place h.is_module is_module in (
            h.held,
            subst (λ (s : ModuleSettings). map.get (state_in s d.at.0 l).hops.held y.hop.opening.triad ≡ Some h.held) own
                (subst (λ (m : ℕ). map.get (state_in h.config m l).hops.held y.hop.opening.triad ≡ Some h.held) place h.stands),
          )

  id_is : there.now.ids.up ≡ Some low.id
  id_is = ap (λ (o : OwnIds). o.up) (sym there.core.1) ∙ next.mirrors.id_is ∙ low.their_is

  up_here : there.now.opening.up ≡ UpLink d.port d.from next.mirrors.own
  up_here =
      ap (λ (o : Opening). o.up) (sym there.core.0) ∙ next.mirrors.up_is
      ∙ ap (λ (w : Way). UpLink w.port w.address next.mirrors.own) there_is

  event_is : arrival.run.1.event ≡ events.Frame d.port d.from (bodies.Data low.id bytes)
  event_is =
      arrival.event_is ∙ ap (λ (b : Body). events.Frame d.port d.from b) (body_is t j i k x bytes gives d next.port next.address next.down_is)
      ∙ ap (λ (n : Option ℕ). events.Frame d.port d.from (bodies.Data (option_map_or (λ a. a) n 0) bytes)) low.their_is

  size_here : length bytes ≡ there.now.opening.ot_size
  size_here = gives.sized ∙ sym next.mirrors.ot_size_is ∙ ap (λ (o : Opening). o.ot_size) there.core.0

  port_here : is_some (port_of config d.port) ≡ true
  port_here =
      port_there t.plan (way_in d.at.0 d.port d.from) (way_in x.at next.port next.address) config is_module
      (t.back (way_in x.at next.port next.address) (way_in d.at.0 d.port d.from) (next.across ∙ ap (λ (w : Way). Some w) there_is))

  outs_are : d.outs ≡ datum_by Down y.hop bytes ∷ []
  outs_are =
      let before_run = run_older t.plan arrival.before j older run in
      let at_own : map.get here.hops.held there.now.opening.triad ≡ Some (Open there.now) = ap (λ (o : Opening). map.get here.hops.held o.triad)
      (sym there.core.0) ∙ there.stands in
      let turn = turned config here (events.Frame d.port d.from (bodies.Data low.id bytes)) arrival.run.1.new d.outs
      (ap (table_step config here) (sym event_is) ∙ arrival.run.1.step) in
      let found = found_up t.plan arrival.before d.at.0 config before_run is_module there.now at_own low.id d.port next.mirrors.own d.from id_is up_here in
      sym turn.out
      ∙ goes_down config here (own_triads config (part d.at.0 arrival.before)
      (run_history t.plan arrival.before d.at.0 config before_run is_module)) d.port low.id d.from bytes port_here there.now turn.effects found
      size_here turn.decided
      ∙ ap (λ (o : Output). o ∷ []) (same_down y.hop there.now bytes there.core)

  pub carried_on : GivesDown j k y bytes
  carried_on = record {
    at = d.at;
    input = inputs.Frame d.port d.from d.name;
    is = d.is ∙ ap (λ (os : List Output). Some (Step d.at (inputs.Frame d.port d.from d.name) os)) outs_are;
    at_is = sym place;
    sized = gives.sized ∙ sym next.mirrors.ot_size_is;
  }

  pub still_after : IsOlder c (before_entry j k)
  still_after =
      subst (λ (l : Journal). IsOlder c l)
      (sym (before_at (Step d.at (inputs.Frame d.port d.from d.name) d.outs) arrival.before j arrival.older) ∙ ap (before_entry j) arrival.number) since

-- ---- the Enter

-- what is entered and taken has the size of the connection
module _ (config : ModuleSettings) (s new : State) (of : ℕ) (bytes : List ℕ) (outs : List Output) (hop : Hop) (own : HasOwnTriads s)
    (found : hop_by_op s.hops of ≡ Some hop) (taken : IsTaken outs)
    (step : table_step config s (events.Command (commands.Enter of bytes)) ≡ Some (record { state = new; outputs = outs })) where
  turn : Turned config s (events.Command (commands.Enter of bytes)) new outs
  turn = turned config s (events.Command (commands.Enter of bytes)) new outs step

  pub enter_sized : length bytes ≡ hop.opening.ot_size
  enter_sized = by_size (eqb (length bytes) hop.opening.ot_size) refl
    where
      by_size : (b : Bool) → eqb (length bytes) hop.opening.ot_size ≡ b → length bytes ≡ hop.opening.ot_size
      by_size true t = eqb-true (length bytes) hop.opening.ot_size t
      by_size false t =
          let whole : Some (enter_effects bytes (hop_by_op s.hops of)) ≡ Some turn.effects = turn.decided in
          let same : enter_effects bytes (hop_by_op s.hops of) ≡ turn.effects = cc in
          let given : outputs.Refused refused.WrongSize ∷ [] ≡ outs =
          ap (λ b. outputs_of config s (refused_effects (cond b rows.Taken rows.WrongSize) (entered_effects bytes (Some hop)))) (sym t)
          ∙ ap (λ (o : Option Hop). outputs_of config s (enter_effects bytes o)) (sym found) ∙ ap (outputs_of config s) same ∙ turn.out in
          absurd (taken refused.WrongSize (subst (λ (os : List Output). Has os (outputs.Refused refused.WrongSize)) given (inl refl)))

  pub enter_gives : outs ≡ datum_by Down hop bytes ∷ []
  enter_gives = sym turn.out ∙ goes_entered config s own of bytes hop turn.effects found enter_sized turn.decided

-- the Enter gives the datum by the first connection of the chain
entered_by : (t : Chassis) (j : Journal) (r m op : ℕ) (bytes : List ℕ) → IsRun t.plan j → (e : IsEntered j r m op bytes)
    → (first : Member) (rest : List Member) → first.at ≡ m
    → IsChain t.plan (before_entry j r) op first rest → GivesDown j r first bytes × (IsOlder (before_entry j r) j × (length (before_entry j r) ≡ r))
entered_by t j r m op bytes run e first rest same chain =
    let x = at_number j r (Step e.at (inputs.Command (commands.Enter op bytes)) e.outs) e.is in
    let then : IsRun t.plan (Step e.at (inputs.Command (commands.Enter op bytes)) e.outs ∷ x.before) =
    run_older t.plan (Step e.at (inputs.Command (commands.Enter op bytes)) e.outs ∷ x.before) j x.older run in
    let moment : before_entry j r ≡ x.before = ap (before_entry j) (sym x.number)
    ∙ before_at (Step e.at (inputs.Command (commands.Enter op bytes)) e.outs) x.before j x.older in
    let place : first.at ≡ e.at.0 = same ∙ sym e.at_is in
    let config = same_module t.plan e.at.0 first.at chain.has.config then.1.config place chain.has.is_module then.1.is_module in
    let found : hop_by_op (state_in then.1.config e.at.0 x.before).hops op ≡ Some first.hop =
    (λ n. hop_by_op (state_in (sym config n) (sym place n) (sym moment n)).hops op) ∙ chain.opened in
    let own = own_triads then.1.config (part e.at.0 x.before) (run_history t.plan x.before e.at.0 then.1.config then.0 then.1.is_module) in
    let step = ap (table_step then.1.config (state_in then.1.config e.at.0 x.before)) (sym then.1.given) ∙ then.1.step in (
      record {
        at = e.at;
        input = inputs.Command (commands.Enter op bytes);
        is = e.is ∙ ap (λ (os : List Output). Some (Step e.at (inputs.Command (commands.Enter op bytes)) os))
            (enter_gives then.1.config (state_in then.1.config e.at.0 x.before) then.1.new op bytes e.outs first.hop own found e.taken step);
        at_is = sym place;
        sized = enter_sized then.1.config (state_in then.1.config e.at.0 x.before) then.1.new op bytes e.outs first.hop own found e.taken step;
      },
      (
        subst (λ (l : Journal). IsOlder l j) (sym moment) (before_that (Step e.at (inputs.Command (commands.Enter op bytes)) e.outs) x.before j x.older),
        ap (λ (l : Journal). length l) moment ∙ x.number,
      ),
    )

-- ---- the theorem

rises : (t : Chassis) (j : Journal) → IsRun t.plan j → (i : ℕ) (ks : List ℕ) → AreDeliveries j i ks → i ≤ last_of i ks
rises t j run i [] d = omega arith
rises t j run i (k ∷ ks) d =
    let one = (delivered t j i k run d.0).later in let more = rises t j run k ks d.1 in omega (arith, one, more)

at_end : (j : Journal) (i : ℕ) (x : Member) (bytes : List ℕ) → GivesDown j i x bytes → GoesToEnd x.hop → IsTakenBy j i x bytes
at_end j i x bytes gives end = record {
  ends = end;
  output = record {
    at = gives.at;
    input = gives.input;
    outs = datum_by Down x.hop bytes ∷ [];
    is = gives.is;
    at_is = gives.at_is;
    has = inl (ap (λ (d : HopDown). datum_down x.hop d bytes) end.down_is);
  };
}

carry : (t : Chassis) (j c : Journal) → IsRun t.plan j → IsOlder c j → (last : ℕ) (bytes : List ℕ) (ys : List Member) (ks : List ℕ) (x : Member) (i : ℕ)
    → HasHop t.plan c x → GoesOnBy t.plan c x ys
    → GivesDown j i x bytes → IsOlder c (before_entry j i) → AreDeliveries j i ks → length ks ≡ length ys → last_of i ks ≤ last
    → AreKept t.plan j (length c) last ys
    → IsTakenBy j (last_of i ks) (last_of x ys) bytes
carry t j c run old last bytes [] [] x i has goes_on gives after deliveries same most kept = at_end j i x bytes gives goes_on
carry t j c run old last bytes [] (k ∷ ks) x i has goes_on gives after deliveries same most kept = absurd (omega (arith, same))
carry t j c run old last bytes (y ∷ ys) [] x i has goes_on gives after deliveries same most kept = absurd (omega (arith, same))
carry t j c run old last bytes (y ∷ ys) (k ∷ ks) x i has goes_on gives after deliveries same most kept =
    let rise = rises t j run k ks deliveries.1 in
    let next = goes_on.0 in
    let bound : k ≤ last = omega (arith, rise, most) in
    carry t j c run old last bytes ys ks y k next.has goes_on.1
    (carried_on t j run c old x y has next i k last bytes gives after deliveries.0 kept.0 bound)
    (still_after t j run c old x y has next i k last bytes gives after deliveries.0 kept.0 bound)
    deliveries.1 (omega (arith, same)) most kept.1

-- a datum that is entered on a chain, and followed through as many deliveries as the chain has links, is taken at its end
pub carried : (t : Chassis) (j : Journal) (r m op : ℕ) (bytes : List ℕ) → IsRun t.plan j → IsEntered j r m op bytes → (first : Member) (rest : List Member)
    → first.at ≡ m
    → IsChain t.plan (before_entry j r) op first rest → (ks : List ℕ) → AreDeliveries j r ks → length ks ≡ length rest
    → AreKept t.plan j r (last_of r ks) (first ∷ rest)
    → IsTakenBy j (last_of r ks) (last_of first rest) bytes
carried t j r m op bytes run e first rest same chain ks deliveries long kept =
    let x = entered_by t j r m op bytes run e first rest same chain in
    let c = before_entry j r in
    carry t j c run x.1.0 (last_of r ks) bytes rest ks first r chain.has chain.goes_on x.0 (itself c) deliveries long (omega arith)
    (subst (λ (n : ℕ). AreKept t.plan j n (last_of r ks) rest) (sym x.1.1) kept.1)
