use Rattle.cip_segment.proofs.HopsRead.{hop_has}
use Rattle.cip_segment.proofs.laws.hop_is_read.Goals as goal

pub returns : goal.returns
returns c = hop_has
