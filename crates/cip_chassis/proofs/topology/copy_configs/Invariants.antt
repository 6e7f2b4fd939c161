use Rattle.std.proofs.Common.{◌≡◌, take}
use Rattle.cip_chassis.proofs.topology.copy_configs.Given as goal

abbrev pub invariant-loop-config : goal.invariant-loop-config
invariant-loop-config l = l.copies.items ≡ take l.config-index l.configs
