use Rattle.std.proofs.Common.{◌≡◌, ◌++◌, length}
use Rattle.std.specs.Prelude.{map}
use Rattle.cip_routing.specs.Views.{hop_row_of}
use Rattle.cip_routing.proofs.Walks.{opens, opens_above}
use Rattle.cip_routing.proofs.show.hop_rows.Given as goal

abbrev pub invariant-loop-hop : goal.invariant-loop-hop
invariant-loop-hop l = l.rows.items ++ map hop_row_of (opens_above l.after l.hops) ≡ map hop_row_of (opens l.hops)

abbrev pub decreases-loop-hop : goal.decreases-loop-hop
decreases-loop-hop l = length (opens_above l.after l.hops)
