use Rattle.std.proofs.Common.{◌≤◌}
use Rattle.cip_check.proofs.strangers.strange_links.Given as goal

abbrev pub invariant-links : goal.invariant-links
invariant-links l = l.initial.report.faults ≤ l.report.faults
