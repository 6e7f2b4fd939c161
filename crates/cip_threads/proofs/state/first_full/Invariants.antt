use Rattle.std.proofs.Common.{◌≡◌, take}
use Rattle.cip_threads.specs.Books.{count_hands}
use Rattle.cip_threads.proofs.state.first_full.Given as goal

abbrev pub invariant-loop-i : goal.invariant-loop-i
invariant-loop-i l = count_hands (take l.i l.hands) ≡ 0
