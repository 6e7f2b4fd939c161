use Rattle.witnesses.proofs.ChainedRun.{chained_run, chain_stands}
use Rattle.witnesses.proofs.laws.chained_run.Goals as goal

pub returns-clause-run : goal.returns-clause-run
returns-clause-run c = chained_run

pub returns-clause-chain : goal.returns-clause-chain
returns-clause-chain c = chain_stands
