use Rattle.cip_target.proofs.EndPoints.{end_points}
use Rattle.cip_target.proofs.laws.points_of_an_end.Goals as goal

pub returns : goal.returns
returns c = end_points
