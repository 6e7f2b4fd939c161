use Rattle.witnesses.proofs.LateClose.{late_close}
use Rattle.witnesses.proofs.laws.late_close.Goals as goal

pub returns : goal.returns
returns c = late_close
