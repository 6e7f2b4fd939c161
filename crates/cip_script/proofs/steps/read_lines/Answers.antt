use Rattle.std.proofs.Common.{arith}
use Rattle.std.proofs.lemmas.Grind.{common_steps}
use Rattle.cip_script.proofs.StepsLaws.{nothing_before}
use Rattle.cip_script.proofs.steps.read_lines.Goals as goal

pub loop-i-init : goal.loop-i-init
loop-i-init c = rw c.new-found.ensures.items (nothing_before _)

pub loop-i-preserved : goal.loop-i-preserved
loop-i-preserved c = grind (arith, common_steps)

pub returns-in-Err-Fault : goal.returns-in-Err-Fault
returns-in-Err-Fault c = grind (arith, common_steps)

pub returns : goal.returns
returns c = grind (arith, common_steps)
