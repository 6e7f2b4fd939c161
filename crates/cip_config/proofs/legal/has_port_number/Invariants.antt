use Rattle.std.proofs.Common.{◌≡◌, drop}
use Rattle.std.specs.List.{list_any}
use Rattle.cip_config.specs.Config.{has_number}
use Rattle.cip_config.proofs.legal.has_port_number.Given as goal

abbrev pub invariant-loop-port : goal.invariant-loop-port
invariant-loop-port l = list_any (has_number l.number) (drop l.port-index l.ports) ≡ list_any (has_number l.number) l.ports
