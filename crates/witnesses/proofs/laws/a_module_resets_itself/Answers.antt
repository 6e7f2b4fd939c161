use Rattle.witnesses.proofs.ResetRun.{reset_under_way}
use Rattle.witnesses.proofs.laws.a_module_resets_itself.Goals as goal

pub returns : goal.returns
returns c = reset_under_way
