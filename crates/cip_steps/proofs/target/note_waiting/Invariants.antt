use Rattle.std.proofs.Common.{◌≡◌, length}
use Rattle.std.specs.FinMap as finite
use Rattle.cip_routing.specs.Resets.{all_noted, waiting_ops}
use Rattle.cip_steps.proofs.Ended.{waiting_in}
use Rattle.cip_routing.proofs.Walks.{above}
use Rattle.cip_steps.proofs.target.note_waiting.Given as goal

abbrev pub invariant-loop-number : goal.invariant-loop-number
invariant-loop-number l = all_noted l.ops.ops.items (waiting_in (above l.after (finite.entries l.pendings.entries))) ≡ all_noted l.fn.ops.ops.items
    (waiting_ops l.pendings)

abbrev pub decreases-loop-number : goal.decreases-loop-number
decreases-loop-number l = length (above l.after (finite.entries l.pendings.entries))
