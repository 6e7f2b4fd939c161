-- What a device keeps, as the routing table sees it.
use Rattle.cip_config.specs.declared.config.ModuleSettings.{ModuleSettings}
use Rattle.cip_steps.specs.declared.device.Device.{Device}
use Rattle.cip_routing.specs.State.{State}

abbrev pub config_of_device : Device → ModuleSettings
config_of_device m = m.config

abbrev pub state_of_device : Device → State
state_of_device m = record {
  now = m.clock;
  pendings = m.pendings;
  hops = m.hops;
  assemblies =
      m.target.objects.assemblies;
  ops = m.ops.ops.items;
}
