use Rattle.std.proofs.Common.{◌≡◌}
use Rattle.cip_target.proofs.Resets.{front_cleared}
use Rattle.cip_target.proofs.assemblies.clear_all.Given as goal

abbrev pub invariant-loop-entry : goal.invariant-loop-entry
invariant-loop-entry l = l.held ≡ front_cleared l.entry-index l.fn.held
