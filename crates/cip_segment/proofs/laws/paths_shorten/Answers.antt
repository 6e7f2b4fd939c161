use Rattle.cip_segment.proofs.PathsShorten.{hop_shortens}
use Rattle.cip_segment.proofs.laws.paths_shorten.Goals as goal

pub returns : goal.returns
returns c = hop_shortens
