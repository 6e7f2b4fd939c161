-- Runs: the journals that the modules of a topology can make.
use Rattle.std.specs.Prelude.{◌≡◌, ℕ, List, [], ◌∷◌, Some, false, slice_get}
use Rattle.cip_config.specs.declared.config.ModuleSettings.{ModuleSettings}
use Rattle.cip_event.specs.declared.event.Event.{Event}
use Rattle.cip_event.specs.declared.event.Event.TheVariants as events
use Rattle.cip_event.specs.declared.event.Output.{Output}
use Rattle.cip_laws.specs.Histories.{state_after}
use Rattle.cip_routing.specs.State.{State}
use Rattle.cip_routing.specs.Table.{table_step}
use Rattle.cip_chassis.specs.Plan.{Plan}
use Rattle.cip_chassis.specs.Nodes.{Way, across}
use Rattle.cip_event.specs.declared.frame.FrameName.{FrameName}
use Rattle.cip_world.specs.declared.journal.Input.{Input}
use Rattle.cip_world.specs.declared.journal.Input.TheVariants.{Command, Tick, Frame}
use Rattle.cip_world.specs.declared.journal.Entry.{Entry}
use Rattle.cip_world.specs.declared.journal.Entry.TheVariants.{Step, Lost}
use Rattle.cip_world.specs.Journals.{Journal, Flight, frame_at, is_named, part}

abbrev pub IsModule : Plan → ℕ → ModuleSettings → Type 0
IsModule t m config = slice_get t.modules m ≡ Some config

-- the state of a module after a journal
abbrev pub state_in : ModuleSettings → ℕ → Journal → State
state_in config m j = state_after config (part m j)

-- a frame that was sent to a module, and that no entry names as arrived or lost
pub record IsWaiting (t : Plan) (j : Journal) (f : FrameName) : Type 0 where
  pub flight : Flight
  pub there : Way
  pub sent : frame_at j f ≡ Some flight
  pub leads : across t flight.way ≡ Some there
  pub fresh : is_named j f ≡ false

-- A waiting frame comes to module m: by the port that has the address, from the address of the port
-- that sent it.
pub record IsArrival (t : Plan) (j : Journal) (f : FrameName) (m port : ℕ) (from : List ℕ)
    (event : Event) : Type 0 where
  pub waits : IsWaiting t j f
  pub here : waits.there ≡ record { at = m; port = port; address = from }
  pub event_is : event ≡ events.Frame port from waits.flight.body

-- what module m is given: a command, a tick, or a waiting frame that comes there
abbrev pub IsGiven : Plan → Journal → ℕ → Input → Event → Type 0
IsGiven t j m (Command command) event = event ≡ events.Command command
IsGiven t j m (Tick ms) event = event ≡ events.Tick ms
IsGiven t j m (Frame port from name) event = IsArrival t j name m port from event

-- a module of the topology does what the routing table says
pub record IsStepAt (t : Plan) (j : Journal) (m : ℕ) (input : Input) (outputs : List Output)
    : Type 0 where
  pub event : Event
  pub given : IsGiven t j m input event
  pub config : ModuleSettings
  pub is_module : IsModule t m config
  pub new : State
  pub step : table_step config (state_in config m j) event
      ≡ Some (record { state = new; outputs = outputs })

-- what may happen next
abbrev pub IsNext : Plan → Journal → Entry → Type 0
IsNext t j (Step m input outputs) = IsStepAt t j m.0 input outputs
IsNext t j (Lost frame) = IsWaiting t j frame

abbrev pub IsRun : Plan → Journal → Type 0
IsRun t [] = Unit {0}
IsRun t (e ∷ j) = IsRun t j × IsNext t j e
