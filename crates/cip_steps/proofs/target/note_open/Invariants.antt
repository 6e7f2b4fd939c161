use Rattle.std.proofs.Common.{◌≡◌, length}
use Rattle.cip_routing.specs.Resets.{all_noted, open_ops}
use Rattle.cip_steps.proofs.Ended.{opened_in}
use Rattle.cip_routing.proofs.Walks.{opens_above}
use Rattle.cip_steps.proofs.target.note_open.Given as goal

abbrev pub invariant-loop-hop : goal.invariant-loop-hop
invariant-loop-hop l = all_noted l.ops.ops.items (opened_in (opens_above l.after l.hops)) ≡ all_noted l.fn.ops.ops.items (open_ops l.hops)

abbrev pub decreases-loop-hop : goal.decreases-loop-hop
decreases-loop-hop l = length (opens_above l.after l.hops)
