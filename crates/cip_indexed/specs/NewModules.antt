-- What a new module in its box keeps, of whichever kind it is.
use Rattle.cip_module.specs.Kinds.{config_of_plain, config_of_adapter, state_of_plain, state_of_adapter}
use Rattle.cip_config.specs.declared.config.ModuleSettings.{ModuleSettings}
use Rattle.cip_routing.specs.State.{State}
use Rattle.cip_indexed.specs.declared.new_module.NewModule.{NewModule}
use Rattle.cip_indexed.specs.declared.new_module.NewModule.TheVariants.{Plain, Adapter, Indexed}
use Rattle.cip_indexed.specs.Indexed.{config_of_indexed, state_of_indexed}

abbrev pub config_of_new : NewModule → ModuleSettings
config_of_new (Plain b) = config_of_plain b.value
config_of_new (Adapter b) = config_of_adapter b.value
config_of_new (Indexed b) = config_of_indexed b.value

abbrev pub state_of_new : NewModule → State
state_of_new (Plain b) = state_of_plain b.value
state_of_new (Adapter b) = state_of_adapter b.value
state_of_new (Indexed b) = state_of_indexed b.value
