use Rattle.std.proofs.Common.{◌≡◌}
use Rattle.cip_check.proofs.slots.decimal_ports.Given as goal

abbrev pub invariant-ports : goal.invariant-ports
invariant-ports l = l.report.faults ≡ l.initial.report.faults
