use Rattle.witnesses.proofs.OneAfterTheOther.{one_after_the_other}
use Rattle.witnesses.proofs.laws.one_after_the_other.Goals as goal

pub returns : goal.returns
returns c = one_after_the_other
