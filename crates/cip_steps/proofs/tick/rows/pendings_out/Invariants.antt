use Rattle.std.proofs.Common.{◌≡◌, ◌++◌, length}
use Rattle.std.specs.Prelude.{map, filter}
use Rattle.std.specs.FinMap as finite
use Rattle.cip_pending.specs.Pendings.{is_due}
use Rattle.cip_steps.specs.Code.Ticks.{shown, pendings_timed_out}
use Rattle.cip_routing.proofs.Walks.{above}
use Rattle.cip_steps.proofs.tick.rows.pendings_out.Given as goal

abbrev pub invariant-loop-number : goal.invariant-loop-number
invariant-loop-number l = l.outputs.items ++ map shown (filter (is_due l.now) (above l.after (finite.entries l.pendings.entries))) ≡ l.fn.outputs.items
    ++ pendings_timed_out l.now l.pendings

abbrev pub decreases-loop-number : goal.decreases-loop-number
decreases-loop-number l = length (above l.after (finite.entries l.pendings.entries))
