-- By the tactic that closes each: those that are tried first without an answer take seconds.
use Rattle.std.proofs.Common.{arith}
use Rattle.std.proofs.lemmas.Grind.{common_steps}
use Rattle.cip_routing.proofs.answers.unread_open.Goals as goal

pub write_open_failure-requires : goal.write_open_failure-requires
write_open_failure-requires c = grind (arith, common_steps)

pub returns : goal.returns
returns c = grind (arith, common_steps)
