use Rattle.std.proofs.Common.{refl}
use Rattle.witnesses.proofs.Told.{loss_waits, loss_root}
use Rattle.witnesses.proofs.laws.a_loss_is_told_of.Goals as goal

pub returns-clause-lost : goal.returns-clause-lost
returns-clause-lost c = refl

pub returns-clause-waits : goal.returns-clause-waits
returns-clause-waits c = loss_waits

pub returns-clause-root : goal.returns-clause-root
returns-clause-root c = loss_root
