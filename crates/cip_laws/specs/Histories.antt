-- What one module did: its turns, the newest first, and the state after them.
use Rattle.std.specs.Prelude.{◌≡◌, List, [], ◌∷◌, Option, Some, None}
use Rattle.cip_config.specs.declared.config.ModuleSettings.{ModuleSettings}
use Rattle.cip_event.specs.declared.event.Event.{Event}
use Rattle.cip_event.specs.declared.event.Output.{Output}
use Rattle.cip_routing.specs.State.{State, initial_state}
use Rattle.cip_routing.specs.Table.{Stepped, table_step}

-- an event, and what the module did at it
pub record Turn : Type 0 where
  pub event : Event
  pub outputs : List Output

-- a step that the table leaves undefined changes nothing
abbrev pub stepped : Option Stepped → State → State
stepped None s = s
stepped (Some step) s = step.state

abbrev pub next_state : ModuleSettings → State → Event → State
next_state config s event = stepped (table_step config s event) s

abbrev pub state_after : ModuleSettings → List Turn → State
state_after config [] = initial_state config
state_after config (turn ∷ turns) = next_state config (state_after config turns) turn.event

-- each turn is a step of the routing table, from the state after the earlier ones
abbrev pub IsHistory : ModuleSettings → List Turn → Type 0
IsHistory config [] = Unit {0}
IsHistory config (turn ∷ turns) =
    IsHistory config turns
    × (table_step config (state_after config turns) turn.event
    ≡ Some (record { state = state_after config (turn ∷ turns); outputs = turn.outputs }))
