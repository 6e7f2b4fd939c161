use Rattle.std.proofs.Common.{◌≡◌, drop}
use Rattle.cip_ends.specs.Ends.{first_reply}
use Rattle.cip_ends.proofs.ends.first_reply.Given as goal

abbrev pub invariant-loop-i : goal.invariant-loop-i
invariant-loop-i l = first_reply l.number (drop l.i l.outputs) ≡ first_reply l.number l.outputs
