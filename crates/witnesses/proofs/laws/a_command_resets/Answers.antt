use Rattle.witnesses.proofs.ResetTold.{by_its_command, made_by_command}
use Rattle.witnesses.proofs.laws.a_command_resets.Goals as goal

pub returns-clause-reset : goal.returns-clause-reset
returns-clause-reset c = by_its_command

pub returns-clause-state : goal.returns-clause-state
returns-clause-state c = made_by_command
