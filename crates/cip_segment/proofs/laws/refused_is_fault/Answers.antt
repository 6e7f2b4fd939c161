use Rattle.cip_segment.proofs.PathsRead.{fault_both}
use Rattle.cip_segment.proofs.laws.refused_is_fault.Goals as goal

pub returns : goal.returns
returns c = fault_both
