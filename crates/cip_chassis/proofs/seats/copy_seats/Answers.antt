-- By the tactic that closes each: those that are tried first without an answer take seconds.
use Rattle.std.proofs.Common.{arith}
use Rattle.std.proofs.lemmas.Grind.{common_steps}
use Rattle.cip_chassis.proofs.seats.copy_seats.Goals as goal

pub loop-seated-init : goal.loop-seated-init
loop-seated-init c = grind (arith, common_steps)

pub loop-seated-preserved : goal.loop-seated-preserved
loop-seated-preserved c = grind (arith, common_steps)

pub returns : goal.returns
returns c = grind (arith, common_steps)
