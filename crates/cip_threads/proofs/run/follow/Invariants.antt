use Rattle.std.proofs.Common.{◌≡◌, reverse, take, vec_len}
use Rattle.cip_threads.specs.Meetings.{AreMet}
use Rattle.cip_threads.proofs.run.follow.Given as goal

abbrev pub invariant-loop-i : goal.invariant-loop-i
invariant-loop-i l = (vec_len l.slots ≡ vec_len l.fn.slots) × AreMet (reverse (take l.i l.journal)) l.slots.items
