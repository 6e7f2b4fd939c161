use Rattle.cip_tool.proofs.Spelled.{spelling_back}
use Rattle.cip_tool.proofs.laws.spelled_paths_are_read.Goals as goal

pub returns : goal.returns
returns c = spelling_back
