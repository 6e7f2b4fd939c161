use Rattle.std.proofs.Common.{◌≡◌, ◌++◌, length}
use Rattle.std.specs.Prelude.{map}
use Rattle.std.specs.FinMap as finite
use Rattle.cip_routing.specs.Views.{row_of}
use Rattle.cip_routing.proofs.Walks.{above}
use Rattle.cip_routing.proofs.show.pending_rows.Given as goal

abbrev pub invariant-loop-number : goal.invariant-loop-number
invariant-loop-number l = l.rows.items ++ map row_of (above l.after (finite.entries l.pendings.entries)) ≡ map row_of (finite.entries l.pendings.entries)

abbrev pub decreases-loop-number : goal.decreases-loop-number
decreases-loop-number l = length (above l.after (finite.entries l.pendings.entries))
