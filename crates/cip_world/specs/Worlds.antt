-- What a world keeps, and what its calls do.
use Rattle.std.specs.Prelude.{◌≡◌, ◌≢◌, ℕ, zero, suc, ◌≤◌, Bool, true, false, List, [], ◌∷◌, Result, Ok, Err, Option, Some, None, length, slice_get, slice_set}
use Rattle.std.specs.Option.{option_and_then}
use Rattle.cip_base.specs.declared.numbers.ModuleId.{ModuleId}
use Rattle.cip_hops.specs.declared.hop.Hop.{Hop}
use Rattle.cip_hops.specs.Hops.{Hops}
use Rattle.cip_config.specs.declared.config.ModuleSettings.{ModuleSettings}
use Rattle.cip_routing.specs.declared.contract.StepFault.{StepFault}
use Rattle.cip_routing.specs.declared.contract.StepFault.TheVariants as steps
use Rattle.cip_event.specs.declared.event.Event.{Event}
use Rattle.cip_event.specs.declared.event.Output.{Output}
use Rattle.cip_routing.specs.State.{State}
use Rattle.cip_routing.specs.Steps.{IsStep}
use Rattle.cip_routing.specs.Table.{table_step}
use Rattle.cip_routing.specs.Views.{ShowsState}
use Rattle.cip_routing.specs.declared.tables.Tables.{Tables}
use Rattle.cip_chassis.specs.Plan.{Plan}
use Rattle.cip_world.specs.declared.fault.WorldFault.{WorldFault}
use Rattle.cip_world.specs.declared.fault.WorldFault.TheVariants as faults
use Rattle.cip_world.specs.declared.world.End.{End}
use Rattle.cip_world.specs.declared.world.End.TheVariants.{Quiet, Limit}
use Rattle.cip_event.specs.declared.frame.FrameName.{FrameName}
use Rattle.cip_world.specs.declared.journal.Input.{Input}
use Rattle.cip_world.specs.declared.journal.Input.TheVariants.{Frame}
use Rattle.cip_world.specs.declared.journal.Entry.TheVariants.{Step, Lost}
use Rattle.cip_world.specs.Journals.{Journal}
use Rattle.cip_world.specs.Ledgers.{Told}
use Rattle.cip_world.specs.Runs.{IsModule, IsWaiting, state_in}
use Rattle.cip_world.specs.Waiting.{waiting}

-- the states of the modules after a journal
pub record AreStates (t : Plan) (j : Journal) (states : List State) : Type 0 where
  pub count : length states ≡ length t.modules
  pub each : (m : ℕ) (config : ModuleSettings) → IsModule t m config
      → slice_get states m ≡ Some (state_in config m j)

-- The boxes of a world have the configs of its topology, and are in the states that its journal
-- leads to.
pub record Stand (told : Told) (configs : List ModuleSettings) (states : List State) : Type 0 where
  pub same : configs ≡ told.plan.modules
  pub stand : AreStates told.plan told.journal states

-- ---- one step

-- one step of the module at place m; the others stay
pub record IsStepOf (configs : List ModuleSettings) (states : List State) (m : ℕ) (event : Event)
    (after : List State) (outputs : List Output) : Type 0 where
  pub config : ModuleSettings
  pub old : State
  pub new : State
  pub at_config : slice_get configs m ≡ Some config
  pub at_state : slice_get states m ≡ Some old
  pub step : IsStep config old event new outputs
  pub changed : after ≡ slice_set states m new

-- only a step that the table leaves undefined answers a full clock
abbrev pub IsFull : List ModuleSettings → List State → ℕ → Event → StepFault → Type 0
IsFull configs states m event (steps.NoMemory back) = Unit {0}
IsFull configs states m event (steps.ClockFull back) =
    (config : ModuleSettings) × (old : State) × (slice_get configs m ≡ Some config)
    × (slice_get states m ≡ Some old) × (table_step config old event ≡ None)

-- ---- what a call adds

-- one entry, in which the module took this input; its number is answered
pub record AddsStep (old new : Journal) (at : ModuleId) (input : Input) (number : ℕ) : Type 0 where
  pub outputs : List Output
  pub is : new ≡ Step at input outputs ∷ old
  pub number_is : number ≡ length old

-- one entry, in which the frame arrived
pub record AddsArrival (old new : Journal) (f : FrameName) (number : ℕ) : Type 0 where
  pub at : ModuleId
  pub port : ℕ
  pub from : List ℕ
  pub adds : AddsStep old new at (Frame port from f) number

-- one entry, in which the frame was lost
pub record AddsLoss (old new : Journal) (f : FrameName) (number : ℕ) : Type 0 where
  pub is : new ≡ Lost f ∷ old
  pub number_is : number ≡ length old

-- ---- why nothing is added

-- the routing table has no such step of module m
pub record HasNoStep (t : Plan) (j : Journal) (m : ℕ) (event : Event) : Type 0 where
  pub config : ModuleSettings
  pub is_module : IsModule t m config
  pub none : table_step config (state_in config m j) event ≡ None

-- of an event that was given to module m
abbrev pub IsFeedFault : Plan → Journal → ℕ → Event → WorldFault → Type 0
IsFeedFault t j m event faults.NoModule = length t.modules ≤ m
IsFeedFault t j m event faults.NoFrame = ⊥
IsFeedFault t j m event (faults.Step full) = HasNoStep t j m event
IsFeedFault t j m event faults.NoMemory = Unit {0}

-- of a frame: an arrival is a step of every module in every state
abbrev pub IsFrameFault : Plan → Journal → FrameName → WorldFault → Type 0
IsFrameFault t j f faults.NoModule = ⊥
IsFrameFault t j f faults.NoFrame = IsWaiting t j f → ⊥
IsFrameFault t j f (faults.Step full) = ⊥
IsFrameFault t j f faults.NoMemory = Unit {0}

-- ---- runs by least name

-- the waiting frame of least name arrived
pub record DeliversOne (t : Plan) (old new : Journal) : Type 0 where
  pub name : FrameName
  pub least : slice_get (waiting t old) 0 ≡ Some name
  pub arrives : AddsArrival old new name (length old)

-- n frames arrived, each the one of least name then
abbrev pub Delivers : Plan → ℕ → Journal → Journal → Type 0
Delivers t zero old new = new ≡ old
Delivers t (suc n) old new = (mid : Journal) × Delivers t n old mid × DeliversOne t mid new

-- whether one frame more arrived; none waited where none did
abbrev pub IsOneMore : Plan → Journal → Journal → Bool → Type 0
IsOneMore t old new true = DeliversOne t old new
IsOneMore t old new false = (new ≡ old) × (waiting t old ≡ [])

-- some number of frames arrived, at most so many
pub record DeliversUpTo (t : Plan) (limit : ℕ) (old new : Journal) : Type 0 where
  pub count : ℕ
  pub most : count ≤ limit
  pub delivers : Delivers t count old new

-- Quiet only where no frame waits afterwards, Limit only where so many arrived and some waits
abbrev pub RunsTo : Plan → ℕ → Journal → Journal → Result End WorldFault → Type 0
RunsTo t limit old new (Ok Quiet) = DeliversUpTo t limit old new × (waiting t new ≡ [])
RunsTo t limit old new (Ok Limit) = Delivers t limit old new × (waiting t new ≢ [])
RunsTo t limit old new (Err fault) = DeliversUpTo t limit old new × (fault ≡ faults.NoMemory)

-- ---- what is shown

pub record IsShownAt (t : Plan) (j : Journal) (m : ℕ) (tables : Tables) : Type 0 where
  pub config : ModuleSettings
  pub is_module : IsModule t m config
  pub shows : ShowsState (state_in config m j) tables

-- what a look at the connections of module m finds; nothing where there is no such module
abbrev pub looked_up : Plan → Journal → ℕ → (Hops → Option Hop) → Option Hop
looked_up t j m look =
    option_and_then (λ config. look (state_in config m j).hops) (slice_get t.modules m)
