use Rattle.std.proofs.Common.{◌≡◌, drop}
use Rattle.std.specs.List.{list_all}
use Rattle.cip_config.specs.Config.{is_port}
use Rattle.cip_config.proofs.legal.are_each_port.Given as goal

abbrev pub invariant-loop-port : goal.invariant-loop-port
invariant-loop-port l = list_all is_port (drop l.port-index l.ports) ≡ list_all is_port l.ports
