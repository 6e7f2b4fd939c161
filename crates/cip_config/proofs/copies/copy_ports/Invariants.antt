use Rattle.std.proofs.Common.{◌≡◌, take}
use Rattle.cip_config.proofs.copies.copy_ports.Given as goal

abbrev pub invariant-loop-port : goal.invariant-loop-port
invariant-loop-port l = l.copies.items ≡ take l.port-index l.ports
