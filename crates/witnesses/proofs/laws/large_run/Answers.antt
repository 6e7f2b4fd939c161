use Rattle.witnesses.proofs.LargeRun.{large_run, chain_stands}
use Rattle.witnesses.proofs.laws.large_run.Goals as goal

pub returns-clause-run : goal.returns-clause-run
returns-clause-run c = large_run

pub returns-clause-chain : goal.returns-clause-chain
returns-clause-chain c = chain_stands
