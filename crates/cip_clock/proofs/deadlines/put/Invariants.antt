use Rattle.std.proofs.Common.{◌≡◌, ◌<◌, drop, set}
use Rattle.cip_clock.proofs.Tree.{IsTreeBut}
use Rattle.cip_clock.proofs.deadlines.put.Given as goal

abbrev pub invariant-loop-at : goal.invariant-loop-at
invariant-loop-at l = record {
  below : l.at < l.room;
  tree : IsTreeBut l.times l.at;
  bounds : drop l.room l.times ≡ set (drop l.room l.fn.times) l.key l.time;
}

abbrev pub decreases-loop-at : goal.decreases-loop-at
decreases-loop-at l = l.at
