use Rattle.std.proofs.Common.{◌≤◌}
use Rattle.cip_check.proofs.checking.broken_rules.Given as goal

abbrev pub invariant-rules : goal.invariant-rules
invariant-rules l = l.initial.report.faults ≤ l.report.faults
