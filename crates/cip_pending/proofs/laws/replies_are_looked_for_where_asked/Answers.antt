use Rattle.cip_pending.proofs.Asked.{asked_there}
use Rattle.cip_pending.proofs.laws.replies_are_looked_for_where_asked.Goals as goal

pub returns : goal.returns
returns c = asked_there
