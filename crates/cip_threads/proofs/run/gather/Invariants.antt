use Rattle.std.proofs.Common.{◌≡◌, [], vec_len}
use Rattle.cip_threads.specs.Meetings.{AreMet}
use Rattle.cip_threads.proofs.run.gather.Given as goal

abbrev pub invariant-loop-i : goal.invariant-loop-i
invariant-loop-i g l = (vec_len l.slots ≡ l._i) × AreMet [] l.slots.items

abbrev pub invariant-loop-i-2 : goal.invariant-loop-i-2
invariant-loop-i-2 g l = (vec_len l.slots ≡ l.count) × AreMet [] l.slots.items
