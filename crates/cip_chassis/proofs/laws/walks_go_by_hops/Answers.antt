use Rattle.cip_chassis.proofs.Walks.{walk_ends, walk_goes}
use Rattle.cip_chassis.proofs.laws.walks_go_by_hops.Goals as goal

pub returns-clause-ends : goal.returns-clause-ends
returns-clause-ends c = walk_ends

pub returns-clause-goes : goal.returns-clause-goes
returns-clause-goes c = walk_goes
