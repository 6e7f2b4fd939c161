-- Effects carried out: the state after them, and their outputs; and what a function that carries
-- them out promises.
use Rattle.std.specs.Prelude.{◌≡◌, List, [], ◌∷◌, Result, Ok, Err}
use Rattle.cip_config.specs.declared.config.ModuleSettings.{ModuleSettings}
use Rattle.cip_event.specs.declared.event.Output.{Output}
use Rattle.cip_steps.specs.declared.device.Device.{Device}
use Rattle.cip_steps.specs.Code.Device.{state_of_device}
use Rattle.cip_routing.specs.Effects.{Effect, applied, outputs_of}
use Rattle.cip_routing.specs.State.{State}

pub record Does (config : ModuleSettings) (s : State) (es : List Effect) (new : State)
    (outputs : List Output) : Type 0 where
  pub state : applied config s es ≡ new
  pub out : outputs_of config s es ≡ outputs

-- the effects were done, with these outputs; the config stays
pub record HasDone (config : ModuleSettings) (s : State) (config' : ModuleSettings) (new : State)
    (es : List Effect) (outputs : List Output) : Type 0 where
  pub does : Does config s es new outputs
  pub same_config : config' ≡ config

-- nothing changed
pub record IsUnchanged (config : ModuleSettings) (s : State) (config' : ModuleSettings)
    (new : State) : Type 0 where
  pub same_state : new ≡ s
  pub same_config : config' ≡ config

-- on Ok the effects were done, with this view of what was answered as the outputs; else nothing
-- changed
abbrev pub DoesOrNot : {V E : Type 0} → (V → List Output) → ModuleSettings → State
    → ModuleSettings → State → List Effect → Result V E → Type 0
DoesOrNot view config s config' new es (Ok answer) = HasDone config s config' new es (view answer)
DoesOrNot view config s config' new es (Err fault) = IsUnchanged config s config' new

abbrev pub one_output : Output → List Output
one_output output = output ∷ []

-- the same of a device, and of one that answers one output
abbrev pub HandlesAs : {V E : Type 0} → (V → List Output) → Device → Device → List Effect
    → Result V E → Type 0
HandlesAs view old new es result =
    DoesOrNot view old.config (state_of_device old) new.config (state_of_device new) es result

abbrev pub Handles : {E : Type 0} → Device → Device → List Effect → Result Output E → Type 0
Handles old new es result = HandlesAs one_output old new es result

-- what cannot fail
abbrev pub Handled : Device → Device → List Effect → List Output → Type 0
Handled old new es outputs =
    HasDone old.config (state_of_device old) new.config (state_of_device new) es outputs
