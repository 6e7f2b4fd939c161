use Rattle.cip_target.proofs.ReadsReset.{what_resets}
use Rattle.cip_target.proofs.laws.what_reads_as_reset.Goals as goal

pub returns : goal.returns
returns c = what_resets
