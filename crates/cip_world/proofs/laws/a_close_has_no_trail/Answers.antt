use Rattle.cip_world.proofs.CloseTrails.{close_trail}
use Rattle.cip_world.proofs.laws.a_close_has_no_trail.Goals as goal

pub returns : goal.returns
returns c = close_trail
