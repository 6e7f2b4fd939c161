use Rattle.std.proofs.Common.{◌≡◌, length}
use Rattle.cip_chart.proofs.cut.Cut.columns.Given as goal

abbrev pub invariant-places : goal.invariant-places
invariant-places l = length l.columns.items ≡ l.place
