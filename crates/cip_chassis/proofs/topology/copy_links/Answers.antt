-- By the tactic that closes each: those that are tried first without an answer take seconds.
use Rattle.std.proofs.Common.{arith}
use Rattle.std.proofs.lemmas.Grind.{common_steps}
use Rattle.cip_chassis.proofs.topology.copy_links.Goals as goal

pub loop-link-init : goal.loop-link-init
loop-link-init c = grind (arith, common_steps)

pub loop-link-preserved : goal.loop-link-preserved
loop-link-preserved c = grind (arith, common_steps)

pub returns : goal.returns
returns c = grind (arith, common_steps)
