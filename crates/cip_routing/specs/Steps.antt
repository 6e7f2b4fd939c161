-- What a call of `step` may do.
use Rattle.std.specs.Prelude.{◌≡◌, List, Result, Ok, Err, Some, None, IsSome}
use Rattle.cip_config.specs.declared.config.ModuleSettings.{ModuleSettings}
use Rattle.cip_event.specs.declared.event.Event.{Event}
use Rattle.cip_event.specs.declared.event.Output.{Output}
use Rattle.cip_routing.specs.declared.contract.StepFault.{StepFault}
use Rattle.cip_routing.specs.declared.contract.StepFault.TheVariants.{NoMemory, ClockFull}
use Rattle.cip_routing.specs.State.{State}
use Rattle.cip_routing.specs.Table.{table_step}

-- a step of the routing table
abbrev pub IsStep : ModuleSettings → State → Event → State → List Output → Type 0
IsStep config old event new outputs =
    table_step config old event ≡ Some (record { state = new; outputs = outputs })

-- after a fault the event comes back and the state is as it was; the clock is full exactly where
-- the table is undefined
abbrev pub IsStepFault : {X : Type 0} → ModuleSettings → State → Event → State → Result X StepFault
    → Type 0
IsStepFault config old event new (Ok outputs) = Unit {0}
IsStepFault config old event new (Err (NoMemory back)) =
    (back ≡ event) × (new ≡ old) × IsSome (table_step config old event)
IsStepFault config old event new (Err (ClockFull back)) =
    (back ≡ event) × (new ≡ old) × (table_step config old event ≡ None)
