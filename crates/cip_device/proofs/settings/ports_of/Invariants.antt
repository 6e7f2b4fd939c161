use Rattle.std.proofs.Common.{◌≡◌, map, take, true}
use Rattle.std.specs.List.{list_all}
use Rattle.cip_device.specs.Settings.{port_of, is_given_port}
use Rattle.cip_device.proofs.settings.ports_of.Given as goal

abbrev pub invariant-loop-port : goal.invariant-loop-port
invariant-loop-port l =
    (l.made.items ≡ map port_of (take l.port-index l.ports))
    × (list_all is_given_port (take l.port-index l.ports) ≡ true)
