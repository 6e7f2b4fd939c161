use Rattle.std.proofs.Common.{◌≤◌}
use Rattle.cip_check.proofs.strangers.strange_assemblies.Given as goal

abbrev pub invariant-assemblies : goal.invariant-assemblies
invariant-assemblies l = l.initial.report.faults ≤ l.report.faults
