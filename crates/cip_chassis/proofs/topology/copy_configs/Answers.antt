-- By the tactic that closes each: those that are tried first without an answer take seconds.
use Rattle.std.proofs.Common.{arith}
use Rattle.std.proofs.lemmas.Grind.{common_steps}
use Rattle.cip_chassis.proofs.topology.copy_configs.Goals as goal

pub loop-config-init : goal.loop-config-init
loop-config-init c = grind (arith, common_steps)

pub loop-config-preserved : goal.loop-config-preserved
loop-config-preserved c = grind (arith, common_steps)

pub returns : goal.returns
returns c = grind (arith, common_steps)
