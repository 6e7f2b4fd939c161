use Rattle.std.proofs.Common.{◌≡◌, ◌++◌}
use Rattle.std.specs.Prelude.{drop}
use Rattle.cip_routing.specs.Resets.{all_ended}
use Rattle.cip_steps.proofs.target.tell_ended.Given as goal

abbrev pub invariant-loop-i : goal.invariant-loop-i
invariant-loop-i l = l.outputs.items ++ all_ended (drop l.i l.ops) ≡ l.fn.outputs.items ++ all_ended l.ops
