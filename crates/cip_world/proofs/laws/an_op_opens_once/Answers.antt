use Rattle.cip_world.proofs.OpenedOnce.{opened_once}
use Rattle.cip_world.proofs.laws.an_op_opens_once.Goals as goal

pub returns : goal.returns
returns c t j m op one other run a b = opened_once t j m op one other run a b
