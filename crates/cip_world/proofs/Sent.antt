-- A datum that comes up to a connection was produced, by the connection at the end of its chain.
use Rattle.std.proofs.Common.{◌≡◌, ℕ, zero, suc, ◌<◌, true, List, ◌∷◌, Some, sym, ap, subst, ◌∙◌, arith, length}
use Rattle.std.specs.FinMap as map
use Rattle.cip_base.specs.declared.numbers.ModuleId.{ModuleId}
use Rattle.cip_hops.specs.declared.opening.HopUp.TheVariants.{Link as UpLink}
use Rattle.cip_hops.specs.declared.opening.Opening.{Opening}
use Rattle.cip_hops.specs.declared.hop.Hop.{Hop}
use Rattle.cip_hops.specs.declared.hop.Held.TheVariants.{Open}
use Rattle.cip_hops.specs.declared.hop.Side.TheVariants.{Up, Down}
use Rattle.cip_config.specs.declared.config.ModuleSettings.{ModuleSettings}
use Rattle.cip_event.specs.declared.event.Body.TheVariants as bodies
use Rattle.cip_event.specs.declared.event.Command.TheVariants as commands
use Rattle.cip_event.specs.declared.event.Output.{Output}
use Rattle.cip_event.specs.declared.event.Output.TheVariants as outputs
use Rattle.cip_routing.specs.Produced.{reads_from}
use Rattle.cip_laws.specs.Tells.{DatumCame, Produced}
use Rattle.cip_laws.proofs.Triads.{own_triads}
use Rattle.cip_chassis.specs.Walk.{walk}
use Rattle.cip_world.specs.declared.journal.Entry.TheVariants.{Step}
use Rattle.cip_event.specs.declared.frame.FrameName.{FrameName}
use Rattle.cip_world.specs.declared.journal.Input.{Input}
use Rattle.cip_world.specs.declared.journal.Input.TheVariants as inputs
use Rattle.cip_world.specs.Journals.{Journal, part}
use Rattle.cip_world.specs.Mirrors.{IsOlder}
use Rattle.cip_world.specs.Roots.{root_here, root_of}
use Rattle.cip_world.specs.Runs.{IsModule, IsRun, state_in}
use Rattle.cip_world.proofs.Chassis.{Chassis}
use Rattle.cip_world.proofs.Commands.{command_given}
use Rattle.cip_world.proofs.Entered.{CameAs, came_as}
use Rattle.cip_world.proofs.Frames.{out_of}
use Rattle.cip_world.proofs.Given.{Source, CameBy, EnteredBy, MadeBy, by_down}
use Rattle.cip_world.proofs.Lines.{IsDatum, Line}
use Rattle.cip_world.proofs.Moments.{before_that, older_length, older_trans, sent_has}
use Rattle.cip_world.proofs.Parts.{run_history}
use Rattle.cip_world.proofs.Rooted.{root_older, root_at}
use Rattle.cip_world.proofs.Steps.{FromBelow, from_below}
use Rattle.cip_laws.specs.Turns.{Has}

-- the Produce of a datum that came in entry k up to a connection of module g, and the line by which it came
pub record Sent (t : Chassis) (j : Journal) (k g : ℕ) (o : Opening) (bytes : List ℕ) : Type 0 where
  pub at : ModuleId
  pub instance : ℕ
  pub outs : List Output
  pub before : Journal
  pub older : IsOlder (Step at (inputs.Command (commands.Produce instance)) outs ∷ before) j
  pub config : ModuleSettings
  pub is_module : IsModule t.plan at.0 config
  pub hop : Hop
  pub stands : map.get (state_in config at.0 before).hops.held hop.opening.triad ≡ Some (Open hop)
  pub reads : reads_from instance hop.opening.down ≡ true
  pub port : ℕ
  pub to : List ℕ
  pub their_id : ℕ
  pub up_is : hop.opening.up ≡ UpLink port to their_id
  pub first : FrameName
  pub starts : first.entry ≡ length before
  pub datum : IsDatum j first
  pub out_is : out_of datum.flight ≡ outputs.Send port to (bodies.Data their_id bytes)
  pub has : Has outs (outputs.Send port to (bodies.Data their_id bytes))
  pub steps : ℕ
  pub line : Line j first steps k
  pub root_is : root_of j k ≡ Some (length before)
  pub triad_is : hop.opening.triad ≡ o.triad
  pub walk_is : walk t.plan g o.path ≡ walk t.plan at.0 hop.opening.path

-- the frame came from the connection below
pub record CameUp (t : Chassis) (j : Journal) (n : ModuleId) (input : Input) (outs : List Output) (before : Journal) (hop : Hop) (bytes : List ℕ) : Type 0 where
  pub port : ℕ
  pub id : ℕ
  pub from : List ℕ
  pub came : CameAs t j n input outs before port id from bytes
  pub below : FromBelow t before came.name came.frame.flight n.0 hop bytes

came_up : (t : Chassis) (j : Journal) (n : ModuleId) (input : Input) (outs : List Output) (before : Journal) → IsOlder (Step n input outs ∷ before) j
    → (run : IsRun t.plan (Step n input outs ∷ before)) → (hop : Hop) (bytes : List ℕ)
    → map.get (state_in run.1.config n.0 before).hops.held hop.opening.triad ≡ Some (Open hop)
    → DatumCame (state_in run.1.config n.0 before) run.1.event Down hop bytes → CameUp t j n input outs before hop bytes
came_up t j n input outs before older run hop bytes stands datum =
    let c = came_as t j n input outs before older run datum.port datum.id datum.from bytes datum.event_is in
    let own = own_triads run.1.config (part n.0 before) (run_history t.plan before n.0 run.1.config run.0 run.1.is_module) in
    let by = by_down (state_in run.1.config n.0 before) run.1.event hop bytes own datum in
    record {
      port = datum.port;
      id = datum.id;
      from = datum.from;
      came = c;
      below = from_below t before run.0 n.0 run.1.config run.1.is_module hop.opening.triad hop stands datum.port datum.id
          datum.from bytes c.name c.frame by.0 by.1;
    }

module _ (t : Chassis) (j : Journal) (n : ModuleId) (input : Input) (outs : List Output) (before : Journal) (older : IsOlder (Step n input outs ∷ before) j)
    (hop : Hop) (bytes : List ℕ)
    (c : CameUp t j n input outs before hop bytes) where
  same_root : root_of j (length before) ≡ root_of j (length c.below.sent.before)
  same_root =
      let s = c.below.sent in
      let long = older_length (Step s.at s.input s.outs ∷ s.before) before s.older in
      let number = s.number in
      c.came.root_is ∙ sym (root_older before j c.came.name.entry (before_that (Step n input outs) before j older) (omega (arith, long, number)))
      ∙ ap (root_of j) (sym s.number)

  sender_older : IsOlder (Step c.below.sent.at c.below.sent.input c.below.sent.outs ∷ c.below.sent.before) j
  sender_older = older_trans (Step c.below.sent.at c.below.sent.input c.below.sent.outs ∷ c.below.sent.before) before j c.below.sent.older
      (before_that (Step n input outs) before j older)

  -- what came up to the connection below came up here
  carried_up : Sent t j (length c.below.sent.before) c.below.sent.at.0 c.below.below.opening bytes → Sent t j (length before) n.0 hop.opening bytes
  carried_up e = record {
    at = e.at;
    instance = e.instance;
    outs = e.outs;
    before = e.before;
    older = e.older;
    config = e.config;
    is_module = e.is_module;
    hop = e.hop;
    stands = e.stands;
    reads = e.reads;
    port = e.port;
    to = e.to;
    their_id = e.their_id;
    up_is = e.up_is;
    first = e.first;
    starts = e.starts;
    datum = e.datum;
    out_is = e.out_is;
    has = e.has;
    steps = suc e.steps;
    line = (length c.below.sent.before, c.came.name, e.line, sym c.below.sent.number, c.came.datum, c.came.brings);
    root_is = same_root ∙ e.root_is;
    triad_is = e.triad_is ∙ c.below.triad_is;
    walk_is = c.below.walk_is ∙ e.walk_is;
  }

  -- what was made below came up here
  made_below : (held : List ℕ) → Produced (state_in c.below.run.1.config c.below.sent.at.0 c.below.sent.before) c.below.run.1.event c.below.below held
      → Sent t j (length before) n.0 hop.opening bytes
  made_below held made =
      let s = c.below.sent in
      let is = command_given t.plan s.before s.at.0 s.input c.below.run.1.event (commands.Produce made.instance) c.below.run.1.given made.event_is in
      record {
        at = s.at;
        instance = made.instance;
        outs = s.outs;
        before = s.before;
        older = subst (λ (i : Input). IsOlder (Step s.at i s.outs ∷ s.before) j) is sender_older;
        config = c.below.run.1.config;
        is_module = c.below.run.1.is_module;
        hop = c.below.below;
        stands = c.below.stands;
        reads = made.reads;
        port = c.below.port;
        to = c.below.to;
        their_id = c.below.their_id;
        up_is = c.below.up_is;
        first = c.came.name;
        starts = sym s.number;
        datum = c.came.datum;
        out_is = ap out_of c.came.flight_is ∙ c.below.out_is;
        has = subst (λ (x : Output). Has s.outs x) c.below.out_is (sent_has before c.came.name c.came.frame.flight s);
        steps = zero;
        line = (c.came.datum, c.came.brings);
        root_is = same_root ∙ root_at (Step s.at s.input s.outs) s.before j sender_older
            ∙ ap (λ (i : Input). root_here (root_of s.before) (length s.before) (Step s.at i s.outs)) is;
        triad_is = c.below.triad_is;
        walk_is = c.below.walk_is;
      }

pub sent : (fuel : ℕ) (t : Chassis) (j : Journal) (n : ModuleId) (input : Input) (outs : List Output) (before : Journal)
    → IsOlder (Step n input outs ∷ before) j
    → (run : IsRun t.plan (Step n input outs ∷ before)) → length before < fuel → (hop : Hop) (bytes : List ℕ)
    → map.get (state_in run.1.config n.0 before).hops.held hop.opening.triad ≡ Some (Open hop)
    → DatumCame (state_in run.1.config n.0 before) run.1.event Down hop bytes → Sent t j (length before) n.0 hop.opening bytes
sent zero t j n input outs before older run less hop bytes stands datum = absurd (omega (arith, less))
sent (suc fuel) t j n input outs before older run less hop bytes stands datum =
    further (came_up t j n input outs before older run hop bytes stands datum)
    (λ n input outs before older run less hop bytes stands datum. sent fuel t j n input outs before older run less hop bytes stands datum)
  where
    by_source : (c : CameUp t j n input outs before hop bytes)
        → Source (state_in c.below.run.1.config c.below.sent.at.0 c.below.sent.before) c.below.run.1.event Up c.below.below bytes
        → (DatumCame (state_in c.below.run.1.config c.below.sent.at.0 c.below.sent.before) c.below.run.1.event Down c.below.below bytes
        → Sent t j (length c.below.sent.before) c.below.sent.at.0 c.below.below.opening bytes) → Sent t j (length before) n.0 hop.opening bytes
    by_source c (CameBy came) rest = carried_up t j n input outs before older hop bytes c (rest came)
    by_source c (EnteredBy of side event_is found sized) rest = absurd (cc)
    by_source c (MadeBy held side bytes_are made) rest = made_below t j n input outs before older hop bytes c held made

    further : (c : CameUp t j n input outs before hop bytes)
        → ((n : ModuleId) (input : Input) (outs : List Output) (before : Journal) → IsOlder (Step n input outs ∷ before) j
        → (run : IsRun t.plan (Step n input outs ∷ before)) → length before < fuel → (hop : Hop) (bytes : List ℕ)
        → map.get (state_in run.1.config n.0 before).hops.held hop.opening.triad ≡ Some (Open hop)
        → DatumCame (state_in run.1.config n.0 before) run.1.event Down hop bytes → Sent t j (length before) n.0 hop.opening bytes)
        → Sent t j (length before) n.0 hop.opening bytes
    further c rest =
        let s = c.below.sent in
        let long = older_length (Step s.at s.input s.outs ∷ s.before) before s.older in
        by_source c c.below.source
        (λ came. rest s.at s.input s.outs s.before (sender_older t j n input outs before older hop bytes c) c.below.run
        (omega (arith, less, long)) c.below.below bytes c.below.stands came)
