-- A datum that a connection gives down was entered, on the connection at the other end of its chain.
use Rattle.std.proofs.Common.{◌≡◌, ℕ, zero, suc, ◌<◌, List, ◌∷◌, Some, refl, sym, ap, subst, ◌∙◌, ◌⊎◌, inl, inr, arith, length}
use Rattle.std.specs.FinMap as map
use Rattle.cip_base.specs.declared.numbers.ModuleId.{ModuleId}
use Rattle.cip_hops.specs.declared.opening.Opening.{Opening}
use Rattle.cip_hops.specs.declared.hop.Hop.{Hop}
use Rattle.cip_hops.specs.declared.hop.Held.TheVariants.{Open}
use Rattle.cip_hops.specs.declared.hop.Side.TheVariants.{Up, Down}
use Rattle.cip_hops.specs.Hops.{hop_by_op}
use Rattle.cip_config.specs.declared.config.ModuleSettings.{ModuleSettings}
use Rattle.cip_event.specs.declared.event.Body.TheVariants as bodies
use Rattle.cip_event.specs.declared.event.Command.TheVariants as commands
use Rattle.cip_event.specs.declared.event.Event.TheVariants as events
use Rattle.cip_event.specs.declared.event.Output.{Output}
use Rattle.cip_laws.specs.Outputs.{is_data}
use Rattle.cip_laws.specs.Tells.{DatumCame}
use Rattle.cip_laws.proofs.Triads.{own_triads}
use Rattle.cip_chassis.specs.Walk.{walk}
use Rattle.cip_world.specs.declared.journal.Entry.TheVariants.{Step}
use Rattle.cip_event.specs.declared.frame.FrameName.{FrameName}
use Rattle.cip_world.specs.declared.journal.Input.{Input}
use Rattle.cip_world.specs.declared.journal.Input.TheVariants as inputs
use Rattle.cip_world.specs.Entering.{IsTaken}
use Rattle.cip_world.specs.Journals.{Journal, part}
use Rattle.cip_world.specs.Mirrors.{IsOlder}
use Rattle.cip_world.specs.Roots.{root_here, root_of}
use Rattle.cip_world.specs.Runs.{IsModule, IsRun, state_in}
use Rattle.cip_world.proofs.Arrivals.{way_in, FrameGiven, frame_given}
use Rattle.cip_world.proofs.Chassis.{Chassis}
use Rattle.cip_world.proofs.Commands.{command_given, taken_by, enter_taken}
use Rattle.cip_world.proofs.Given.{Source, CameBy, EnteredBy, MadeBy, by_up}
use Rattle.cip_world.proofs.Lines.{Brings, IsDatum, Line}
use Rattle.cip_world.proofs.Moments.{number_at, before_that, older_length, older_trans}
use Rattle.cip_world.proofs.Parts.{turn_of, run_history}
use Rattle.cip_world.proofs.Rooted.{root_older, root_at, frame_later}
use Rattle.cip_world.proofs.Steps.{turn_history, DatumFrame, FromAbove, from_above}

-- ---- the line from the root

-- the datum came to entry k by frames, of which the root sent the first
pub record Behind (j : Journal) (root k : ℕ) : Type 0 where
  pub first : FrameName
  pub starts : first.entry ≡ root
  pub steps : ℕ
  pub line : Line j first steps k

pub behind : (j : Journal) (root i k : ℕ) (f : FrameName) → (i ≡ root) ⊎ Behind j root i → f.entry ≡ i → IsDatum j f → Brings j k f → Behind j root k
behind j root i k f (inl same) sent datum brings = record { first = f; starts = sent ∙ same; steps = zero; line = (datum, brings) }
behind j root i k f (inr b) sent datum brings = record { first = b.first; starts = b.starts; steps = suc b.steps; line = (i, f, b.line, sent, datum, brings) }

-- ---- a datum that came by a link

-- the frame that brought the datum of the newest step
pub record CameAs (t : Chassis) (j : Journal) (n : ModuleId) (input : Input) (outs : List Output) (before : Journal) (port id : ℕ)
    (from bytes : List ℕ) : Type 0 where
  pub name : FrameName
  pub frame : DatumFrame t before name n.0 port id from bytes
  pub datum : IsDatum j name
  pub flight_is : datum.flight ≡ frame.flight
  pub brings : Brings j (length before) name
  pub root_is : root_of j (length before) ≡ root_of before name.entry

pub came_as : (t : Chassis) (j : Journal) (n : ModuleId) (input : Input) (outs : List Output) (before : Journal) → IsOlder (Step n input outs ∷ before) j
    → (run : IsRun t.plan (Step n input outs ∷ before)) → (port id : ℕ) (from bytes : List ℕ) → run.1.event ≡ events.Frame port from (bodies.Data id bytes)
    → CameAs t j n input outs before port id from bytes
came_as t j n input outs before older run port id from bytes event_is =
    let g : FrameGiven t before n.0 port from (bodies.Data id bytes) input = frame_given t before n.0 input run.1.event port from
    (bodies.Data id bytes) run.1.given event_is in
    record {
      name = g.name;
      frame = record { flight = g.flight; sent = g.sent; leads = g.leads; body_is = g.body_is };
      datum = record {
        flight = g.flight;
        sent = frame_later before j g.name g.flight (before_that (Step n input outs) before j older) g.sent;
        data_ = ap is_data g.body_is;
      };
      flight_is = refl;
      brings = record {
        at = n;
        port = port;
        from = from;
        outs = outs;
        is = number_at (Step n input outs) before j older ∙ ap (λ (i : Input). Some (Step n i outs)) g.input_is;
      };
      root_is = root_at (Step n input outs) before j older ∙ ap (λ (i : Input). root_here (root_of before) (length before) (Step n i outs)) g.input_is;
    }

-- ---- down

-- the Enter of a datum that entry k gives down a connection at module g
pub record Entered (t : Chassis) (j : Journal) (k g : ℕ) (o : Opening) (bytes : List ℕ) : Type 0 where
  pub at : ModuleId
  pub of : ℕ
  pub outs : List Output
  pub before : Journal
  pub older : IsOlder (Step at (inputs.Command (commands.Enter of bytes)) outs ∷ before) j
  pub taken : IsTaken outs
  pub config : ModuleSettings
  pub is_module : IsModule t.plan at.0 config
  pub hop : Hop
  pub found : hop_by_op (state_in config at.0 before).hops of ≡ Some hop
  pub root_is : root_of j k ≡ Some (length before)
  pub triad_is : hop.opening.triad ≡ o.triad
  pub walk_is : walk t.plan at.0 hop.opening.path ≡ walk t.plan g o.path
  pub line : (k ≡ length before) ⊎ Behind j (length before) k

-- one that came by the link above
pub record CameDown (t : Chassis) (j : Journal) (n : ModuleId) (input : Input) (outs : List Output) (before : Journal) (hop : Hop)
    (bytes : List ℕ) : Type 0 where
  pub port : ℕ
  pub id : ℕ
  pub from : List ℕ
  pub came : CameAs t j n input outs before port id from bytes
  pub above : FromAbove t before came.name came.frame.flight n.0 (way_in n.0 port from) hop bytes

pub came_down : (t : Chassis) (j : Journal) (n : ModuleId) (input : Input) (outs : List Output) (before : Journal) → IsOlder (Step n input outs ∷ before) j
    → (run : IsRun t.plan (Step n input outs ∷ before)) → (hop : Hop) (bytes : List ℕ)
    → map.get (state_in run.1.config n.0 before).hops.held hop.opening.triad ≡ Some (Open hop)
    → DatumCame (state_in run.1.config n.0 before) run.1.event Up hop bytes → CameDown t j n input outs before hop bytes
came_down t j n input outs before older run hop bytes stands datum =
    let c = came_as t j n input outs before older run datum.port datum.id datum.from bytes datum.event_is in
    let own = own_triads run.1.config (part n.0 before) (run_history t.plan before n.0 run.1.config run.0 run.1.is_module) in
    record {
      port = datum.port;
      id = datum.id;
      from = datum.from;
      came = c;
      above = from_above t before run.0 n.0 run.1.config run.1.is_module hop.opening.triad hop stands datum.port datum.id datum.from bytes c.name c.frame
          (by_up (state_in run.1.config n.0 before) run.1.event hop bytes own datum).0;
    }

-- what was entered for the connection above was entered for this one
pub carried_down : (t : Chassis) (j : Journal) (n : ModuleId) (input : Input) (outs : List Output) (before : Journal) → IsOlder (Step n input outs ∷ before) j
    → (hop : Hop) (bytes : List ℕ) → (c : CameDown t j n input outs before hop bytes)
    → (e : Entered t j (length c.above.sent.before) c.above.sent.at.0 c.above.above.opening bytes)
    → (x : Entered t j (length before) n.0 hop.opening bytes) × Behind j (length x.before) (length before)
carried_down t j n input outs before older hop bytes c e =
    let s = c.above.sent in
    let long = older_length (Step s.at s.input s.outs ∷ s.before) before s.older in
    let number = s.number in
    let same_root : root_of j c.came.name.entry ≡ root_of before c.came.name.entry =
    root_older before j c.came.name.entry (before_that (Step n input outs) before j older) (omega (arith, long, number)) in
    let b = behind j (length e.before) (length s.before) (length before) c.came.name e.line (sym s.number) c.came.datum c.came.brings in (
      record {
        at = e.at;
        of = e.of;
        outs = e.outs;
        before = e.before;
        older = e.older;
        taken = e.taken;
        config = e.config;
        is_module = e.is_module;
        hop = e.hop;
        found = e.found;
        root_is = c.came.root_is ∙ sym same_root ∙ ap (root_of j) (sym s.number) ∙ e.root_is;
        triad_is = e.triad_is ∙ sym c.above.matches.triad_is;
        walk_is = e.walk_is ∙ c.above.walk_is;
        line = inr b;
      },
      b,
    )

-- one that is entered here
pub entered_here : (t : Chassis) (j : Journal) (n : ModuleId) (input : Input) (outs : List Output) (before : Journal) → IsOlder (Step n input outs ∷ before) j
    → (run : IsRun t.plan (Step n input outs ∷ before)) → (hop : Hop) (bytes : List ℕ) (of : ℕ) → run.1.event ≡ events.Command (commands.Enter of bytes)
    → hop_by_op (state_in run.1.config n.0 before).hops of ≡ Some hop → length bytes ≡ hop.opening.ot_size → Entered t j (length before) n.0 hop.opening bytes
entered_here t j n input outs before older run hop bytes of event_is found sized =
    let is = command_given t.plan before n.0 input run.1.event (commands.Enter of bytes) run.1.given event_is in
    record {
      at = n;
      of = of;
      outs = outs;
      before = before;
      older = subst (λ (i : Input). IsOlder (Step n i outs ∷ before) j) is older;
      taken = taken_by run.1.config (part n.0 before) (turn_of run.1.event outs) (turn_history t.plan before n input outs run)
          (commands.Enter of bytes) event_is
          (enter_taken (state_in run.1.config n.0 before) of bytes hop found sized);
      config = run.1.config;
      is_module = run.1.is_module;
      hop = hop;
      found = found;
      root_is = root_at (Step n input outs) before j older ∙ ap (λ (i : Input). root_here (root_of before) (length before) (Step n i outs)) is;
      triad_is = refl;
      walk_is = refl;
      line = inl refl;
    }

pub entered : (fuel : ℕ) (t : Chassis) (j : Journal) (n : ModuleId) (input : Input) (outs : List Output) (before : Journal)
    → IsOlder (Step n input outs ∷ before) j
    → (run : IsRun t.plan (Step n input outs ∷ before)) → length before < fuel → (hop : Hop) (bytes : List ℕ)
    → map.get (state_in run.1.config n.0 before).hops.held hop.opening.triad ≡ Some (Open hop)
    → Source (state_in run.1.config n.0 before) run.1.event Down hop bytes → Entered t j (length before) n.0 hop.opening bytes
entered zero t j n input outs before older run less hop bytes stands source = absurd (omega (arith, less))
entered (suc fuel) t j n input outs before older run less hop bytes stands (CameBy came) =
    let c = came_down t j n input outs before older run hop bytes stands came in
    let s = c.above.sent in
    let long = older_length (Step s.at s.input s.outs ∷ s.before) before s.older in
    let e = entered fuel t j s.at s.input s.outs s.before
    (older_trans (Step s.at s.input s.outs ∷ s.before) before j s.older (before_that (Step n input outs) before j older))
    c.above.run (omega (arith, less, long)) c.above.above bytes c.above.stands c.above.source in
    (carried_down t j n input outs before older hop bytes c e).0
entered (suc fuel) t j n input outs before older run less hop bytes stands (EnteredBy of side event_is found sized) =
    entered_here t j n input outs before older run hop bytes of event_is found sized
entered (suc fuel) t j n input outs before older run less hop bytes stands (MadeBy held side bytes_are made) = absurd (cc)
