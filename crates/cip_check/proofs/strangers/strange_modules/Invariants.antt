use Rattle.std.proofs.Common.{◌≤◌}
use Rattle.cip_check.proofs.strangers.strange_modules.Given as goal

abbrev pub invariant-modules : goal.invariant-modules
invariant-modules l = l.initial.report.faults ≤ l.report.faults
