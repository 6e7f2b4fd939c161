use Rattle.cip_segment.proofs.HopsRead.{hop_both}
use Rattle.cip_segment.proofs.laws.read_hop_is_first.Goals as goal

pub returns : goal.returns
returns c = hop_both
