-- What a step of a script does to a world.
use Rattle.std.specs.Prelude.{◌≡◌, ◌⊎◌, ℕ, ◌≤◌, length, Result, Ok, Err}
use Rattle.cip_event.specs.declared.event.Event.{Event}
use Rattle.cip_event.specs.declared.event.Event.TheVariants as events
use Rattle.cip_chassis.specs.Plan.{Plan}
use Rattle.cip_script.specs.declared.steps.Step.{Step}
use Rattle.cip_script.specs.declared.steps.Step.TheVariants.{Feed, Tick, Deliver, Lose, Run}
use Rattle.cip_script.specs.declared.steps.ScriptFault.{ScriptFault}
use Rattle.cip_script.specs.declared.steps.ScriptFault.TheVariants.{NoFrame, ClockFull}
use Rattle.cip_ends.specs.declared.silent.PlayFault.{PlayFault}
use Rattle.cip_ends.specs.declared.silent.PlayFault.TheVariants.{Stopped, NoMemory}
use Rattle.cip_world.specs.declared.journal.Input.TheVariants as inputs
use Rattle.cip_world.specs.declared.world.End.TheVariants.{Quiet, Limit}
use Rattle.cip_world.specs.Journals.{Journal}
use Rattle.cip_world.specs.Runs.{IsWaiting}
use Rattle.cip_world.specs.Worlds.{AddsStep, AddsArrival, AddsLoss, HasNoStep, RunsTo}
use Rattle.cip_world.specs.Worlds.{DeliversUpTo}

-- the module has no such turn: there is no such module, or its clock is full
abbrev pub HasNoTurn : Plan → Journal → ℕ → Event → Type 0
HasNoTurn t j m event = (length t.modules ≤ m) ⊎ HasNoStep t j m event

-- the frames of least name arrived until none waited, or so many of them
abbrev pub Runs : Plan → ℕ → Journal → Journal → Type 0
Runs t limit old new = RunsTo t limit old new (Ok Quiet) ⊎ RunsTo t limit old new (Ok Limit)

-- the entries that a step adds where it is played to its end; what only shows something adds none
abbrev pub Adds : Plan → Journal → Journal → Step → Type 0
Adds t old new (Feed at command) = AddsStep old new at (inputs.Command command) (length old)
Adds t old new (Tick at by) = AddsStep old new at (inputs.Tick by) (length old)
Adds t old new (Deliver frame) = AddsArrival old new frame (length old)
Adds t old new (Lose frame) = AddsLoss old new frame (length old)
Adds t old new (Run limit) = Runs t limit old new
Adds t old new shows = new ≡ old

-- why a step stops
abbrev pub Stops : Plan → Journal → Step → ScriptFault → Type 0
Stops t j (Feed at command) fault =
    (fault ≡ ClockFull) × HasNoTurn t j at.0 (events.Command command)
Stops t j (Tick at by) fault = (fault ≡ ClockFull) × HasNoTurn t j at.0 (events.Tick by)
Stops t j (Deliver frame) fault = (fault ≡ NoFrame) × (IsWaiting t j frame → ⊥)
Stops t j (Lose frame) fault = (fault ≡ NoFrame) × (IsWaiting t j frame → ⊥)
Stops t j other fault = ⊥

-- what was done of a step where memory ran out
abbrev pub Leaves : Plan → Journal → Journal → Step → Type 0
Leaves t old new (Run limit) = DeliversUpTo t limit old new
Leaves t old new other = new ≡ old

-- a step was played to its end, or it stopped, or memory ran out
abbrev pub Plays : Plan → Journal → Journal → Step → Result (Unit {0}) PlayFault → Type 0
Plays t old new step (Ok u) = Adds t old new step
Plays t old new step (Err (Stopped fault)) = (new ≡ old) × Stops t old step fault
Plays t old new step (Err NoMemory) = Leaves t old new step
