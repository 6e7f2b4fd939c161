use Rattle.std.proofs.Common.{◌≡◌, take}
use Rattle.cip_threads.proofs.state.first_other.Given as goal

abbrev pub invariant-loop-i : goal.invariant-loop-i
invariant-loop-i l = take l.i l.one ≡ take l.i l.other
