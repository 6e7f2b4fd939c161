use Rattle.std.proofs.Common.{arith}
use Rattle.cip_script.proofs.StepsLaws.{step-of_other}
use Rattle.cip_script.proofs.steps.line_step.Goals as goal

pub returns-in-Some : goal.returns-in-Some
returns-in-Some c = rw c.in-Some.ensures.text at c.text_step.ensures

pub returns-in-None : goal.returns-in-None
returns-in-None c = grind (arith, step-of_other)
