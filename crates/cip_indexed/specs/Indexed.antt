-- What an indexed module keeps, as the routing table sees it.
use Rattle.cip_config.specs.declared.config.ModuleSettings.{ModuleSettings}
use Rattle.cip_steps.specs.Code.Device.{config_of_device, state_of_device}
use Rattle.cip_routing.specs.State.{State}
use Rattle.cip_indexed.specs.declared.indexed.IndexedModule.{IndexedModule}

abbrev pub config_of_indexed : IndexedModule → ModuleSettings
config_of_indexed m = config_of_device m.device

abbrev pub state_of_indexed : IndexedModule → State
state_of_indexed m = state_of_device m.device
