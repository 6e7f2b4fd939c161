-- By the tactic that closes each: those that are tried first without an answer take seconds.
use Rattle.std.proofs.Common.{arith}
use Rattle.std.proofs.lemmas.Grind.{common_steps}
use Rattle.cip_config.proofs.copies.copy_ports.Goals as goal

pub loop-port-init : goal.loop-port-init
loop-port-init c = grind (arith, common_steps)

pub loop-port-preserved : goal.loop-port-preserved
loop-port-preserved c = grind (arith, common_steps)

pub returns : goal.returns
returns c = grind (arith, common_steps)
