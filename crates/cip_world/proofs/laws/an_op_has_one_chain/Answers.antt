use Rattle.cip_world.proofs.OneChain.{chain_once}
use Rattle.cip_world.proofs.laws.an_op_has_one_chain.Goals as goal

pub returns : goal.returns
returns c = chain_once
