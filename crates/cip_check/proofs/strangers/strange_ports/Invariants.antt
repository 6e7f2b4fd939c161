use Rattle.std.proofs.Common.{◌≤◌}
use Rattle.cip_check.proofs.strangers.strange_ports.Given as goal

abbrev pub invariant-ports : goal.invariant-ports
invariant-ports l = l.initial.report.faults ≤ l.report.faults
