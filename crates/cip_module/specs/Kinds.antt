-- What a module of each kind keeps, as the routing table sees it.
use Rattle.cip_config.specs.declared.config.ModuleSettings.{ModuleSettings}
use Rattle.cip_steps.specs.Code.Device.{config_of_device, state_of_device}
use Rattle.cip_routing.specs.State.{State}
use Rattle.cip_module.specs.declared.plain.PlainModule.{PlainModule}
use Rattle.cip_module.specs.declared.adapter.AdapterModule.{AdapterModule}

abbrev pub config_of_plain : PlainModule → ModuleSettings
config_of_plain m = config_of_device m.device

abbrev pub state_of_plain : PlainModule → State
state_of_plain m = state_of_device m.device

abbrev pub config_of_adapter : AdapterModule → ModuleSettings
config_of_adapter m = config_of_device m.device

abbrev pub state_of_adapter : AdapterModule → State
state_of_adapter m = state_of_device m.device
