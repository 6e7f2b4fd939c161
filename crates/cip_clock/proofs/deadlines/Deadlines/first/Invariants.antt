use Rattle.std.proofs.Common.{◌≡◌, ◌*◌, ◌<◌, ◌-◌, get_or}
use Rattle.cip_clock.proofs.deadlines.Deadlines.first.Given as goal

abbrev pub invariant-loop-at : goal.invariant-loop-at
invariant-loop-at l = record {
  some : 0 < l.at;
  within : l.at < 2 * l.self-inside.room;
  least : get_or l.self-inside.times.items l.at 0 ≡ get_or l.self-inside.times.items 1 0;
}

abbrev pub decreases-loop-at : goal.decreases-loop-at
decreases-loop-at l = l.self-inside.room - l.at
