use Rattle.std.proofs.Common.{◌≡◌, replicate, None}
use Rattle.cip_threads.proofs.state.no_hands.Given as goal

abbrev pub invariant-loop-i : goal.invariant-loop-i
invariant-loop-i l = l.hands.items ≡ replicate l._i None
