-- What a contract sees of a device, and what a step of one is.
use Rattle.std.specs.Prelude.{◌≡◌, ◌≢◌, ◌↔◌, ℕ, List, [], Option, Some, None, option_map}
use Rattle.cip_config.specs.declared.config.ModuleSettings.{ModuleSettings}
use Rattle.cip_event.specs.declared.event.Event.{Event}
use Rattle.cip_event.specs.declared.event.Output.{Output}
use Rattle.cip_indexed.specs.NewModules.{config_of_new, state_of_new}
use Rattle.cip_routing.specs.State.{State}
use Rattle.cip_routing.specs.Steps.{IsStep}
use Rattle.cip_routing.specs.Table.{table_step}
use Rattle.cip_device.specs.declared.held.Held.{Held}
use Rattle.cip_device.specs.Statuses.{IsStepStatus}

-- the module's config and state, and the outputs that wait to be read, the next first
pub record Shown : Type 0 where
  pub config : ModuleSettings
  pub state : State
  pub outputs : List Output

abbrev pub shown_of : Held → Shown
shown_of h = record {
  config = config_of_new h.module_;
  state = state_of_new h.module_;
  outputs = h.outputs.items;
}

-- of a handle: nothing where it has no device
abbrev pub shown : Option Held → Option Shown
shown = option_map shown_of

-- a step of the routing table by a device none of whose outputs waits; then those of the step do
abbrev pub IsDeviceStep : Option Shown → Event → Option Shown → Type 0
IsDeviceStep (Some s) event (Some t) =
    (s.outputs ≡ []) × (t.config ≡ s.config)
    × IsStep s.config s.state event t.state t.outputs
IsDeviceStep (Some s) event None = ⊥
IsDeviceStep None event new = ⊥

-- a device none of whose outputs waits
abbrev pub IsReady : Option Shown → Type 0
IsReady (Some s) = s.outputs ≡ []
IsReady None = ⊥

-- outputs wait
abbrev pub HasUnread : Option Shown → Type 0
HasUnread (Some s) = s.outputs ≢ []
HasUnread None = ⊥

-- the routing table has no step, since the clock would pass its last time
abbrev pub IsFull : Option Shown → Event → Type 0
IsFull (Some s) event = table_step s.config s.state event ≡ None
IsFull None event = ⊥

-- why a step was not done: 1 exactly where there is no device, 3 exactly where outputs wait, 6 only
-- where the clock is full
abbrev pub IsWhy : ℕ → Option Shown → Event → Type 0
IsWhy result old event =
    ((result ≡ 1) ↔ (old ≡ None)) × ((result ≡ 3) ↔ HasUnread old)
    × (result ≡ 6 → IsFull old event)

-- what a call answers that gives a device one event: 0 exactly this step was done, and else nothing
-- has changed; 4 exactly where an argument is bad, of a device that could take an event; 5 in place
-- of 0, and nothing else
abbrev pub IsStepAnswer : ℕ → Option Shown → Type 0 → Event → Option Shown → Type 0
IsStepAnswer result old bad event new =
    (result ≡ 0 → IsDeviceStep old event new) × (result ≢ 0 → new ≡ old)
    × IsWhy result old event × ((result ≡ 4) ↔ (IsReady old × bad)) × IsStepStatus result
