use Rattle.std.proofs.Common.{◌≡◌}
use Rattle.cip_check.proofs.slots.decimal_addresses.Given as goal

abbrev pub invariant-modules : goal.invariant-modules
invariant-modules l = l.report.faults ≡ l.initial.report.faults
