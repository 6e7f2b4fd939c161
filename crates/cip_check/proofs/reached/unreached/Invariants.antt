use Rattle.std.proofs.Common.{◌≡◌}
use Rattle.cip_check.proofs.reached.unreached.Given as goal

abbrev pub invariant-modules : goal.invariant-modules
invariant-modules l = l.report.faults ≡ l.initial.report.faults
