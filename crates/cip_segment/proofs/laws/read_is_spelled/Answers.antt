use Rattle.cip_segment.proofs.PathsRead.{spelled_both}
use Rattle.cip_segment.proofs.laws.read_is_spelled.Goals as goal

pub returns : goal.returns
returns c = spelled_both
