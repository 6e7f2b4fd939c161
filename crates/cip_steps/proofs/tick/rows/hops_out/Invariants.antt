use Rattle.std.proofs.Common.{◌≡◌, ◌++◌, length}
use Rattle.std.specs.Prelude.{map, filter}
use Rattle.cip_hops.specs.Hops.{is_timed_out}
use Rattle.cip_steps.specs.Code.Ticks.{hop_timed_out, hops_timed_out}
use Rattle.cip_routing.proofs.Walks.{opens_above}
use Rattle.cip_steps.proofs.tick.rows.hops_out.Given as goal

abbrev pub invariant-loop-hop : goal.invariant-loop-hop
invariant-loop-hop l = l.outputs.items ++ map hop_timed_out (filter (is_timed_out l.now) (opens_above l.after l.hops)) ≡ l.fn.outputs.items
    ++ hops_timed_out l.now l.hops

abbrev pub decreases-loop-hop : goal.decreases-loop-hop
decreases-loop-hop l = length (opens_above l.after l.hops)
