use Rattle.std.proofs.Common.{◌≤◌}
use Rattle.cip_check.proofs.strangers.keys_of.Given as goal

abbrev pub invariant-keys : goal.invariant-keys
invariant-keys l = l.initial.report.faults ≤ l.report.faults
