use Rattle.std.proofs.Common.{◌≡◌, drop}
use Rattle.cip_world.specs.Trails.{request_from}
use Rattle.cip_chain.proofs.trails.first_request.Given as goal

abbrev pub invariant-loop-i : goal.invariant-loop-i
invariant-loop-i l = request_from 0 l.outputs ≡ request_from l.i (drop l.i l.outputs)
