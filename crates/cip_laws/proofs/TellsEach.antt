-- What lists of effects tell together.
use Rattle.std.proofs.Common.{List, [], ◌∷◌, ◌++◌}
use Rattle.cip_config.specs.declared.config.ModuleSettings.{ModuleSettings}
use Rattle.cip_event.specs.declared.event.Event.{Event}
use Rattle.cip_routing.specs.Effects.{Effect}
use Rattle.cip_routing.specs.State.{State}
use Rattle.cip_laws.specs.Tells.{AllTell}

pub all_append : (config : ModuleSettings) (s : State) (event : Event) (es fs : List Effect) → AllTell config s event es → AllTell config s event fs
    → AllTell config s event (es ++ fs)
all_append config s event [] fs h k = k
all_append config s event (e ∷ es) fs h k = (h.0, all_append config s event es fs h.1 k)
