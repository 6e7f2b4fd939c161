-- One step more of a run.
use Rattle.std.proofs.Common.{◌≡◌, ℕ, List, ◌∷◌, Some, false, refl}
use Rattle.cip_config.specs.declared.config.ModuleSettings.{ModuleSettings}
use Rattle.cip_event.specs.declared.event.Body.{Body}
use Rattle.cip_event.specs.declared.event.Command.{Command}
use Rattle.cip_event.specs.declared.event.Event.TheVariants as events
use Rattle.cip_event.specs.declared.event.Output.{Output}
use Rattle.cip_chassis.specs.Plan.{Plan}
use Rattle.cip_chassis.specs.Nodes.{Way, across}
use Rattle.cip_event.specs.declared.frame.FrameName.{FrameName}
use Rattle.cip_world.specs.declared.journal.Input.TheVariants as inputs
use Rattle.cip_world.specs.declared.journal.Entry.TheVariants.{Step}
use Rattle.cip_world.specs.Journals.{Journal, frame_at, is_named}
use Rattle.cip_world.specs.Runs.{IsModule, IsRun, state_in}
use Rattle.witnesses.proofs.Maps.{Gives}

-- a module is given a command
pub and_command : (t : Plan) (j : Journal) (m : ℕ) (config : ModuleSettings) (command : Command) (outs : List Output) → IsRun t j → IsModule t m config
    → Gives config (state_in config m j) (events.Command command) outs → IsRun t (Step (record { 0 = m }) (inputs.Command command) outs ∷ j)
and_command t j m config command outs run at gives =
    (run, record { event = events.Command command; given = refl; config = config; is_module = at; new = gives.0; step = gives.1 })

-- time goes by at a module
pub and_tick : (t : Plan) (j : Journal) (m : ℕ) (config : ModuleSettings) (ms : ℕ) (outs : List Output) → IsRun t j → IsModule t m config
    → Gives config (state_in config m j) (events.Tick ms) outs → IsRun t (Step (record { 0 = m }) (inputs.Tick ms) outs ∷ j)
and_tick t j m config ms outs run at gives =
    (run, record { event = events.Tick ms; given = refl; config = config; is_module = at; new = gives.0; step = gives.1 })

-- a frame that waits comes to where its way leads
pub and_frame : (t : Plan) (j : Journal) (f : FrameName) (way there : Way) (config : ModuleSettings) (body : Body) (outs : List Output) → IsRun t j
    → frame_at j f ≡ Some (record { way = way; body = body }) → across t way ≡ Some there → is_named j f ≡ false → IsModule t there.at config
    → Gives config (state_in config there.at j) (events.Frame there.port there.address body) outs
    → IsRun t (Step (record { 0 = there.at }) (inputs.Frame there.port there.address f) outs ∷ j)
and_frame t j f way there config body outs run sent leads fresh at gives = (
  run,
  record {
    event = events.Frame there.port there.address body;
    given = record {
      waits = record { flight = record { way = way; body = body }; there = there; sent = sent; leads = leads; fresh = fresh };
      here = refl;
      event_is = refl;
    };
    config = config;
    is_module = at;
    new = gives.0;
    step = gives.1;
  },
)
