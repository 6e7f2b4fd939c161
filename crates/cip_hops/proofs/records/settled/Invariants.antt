use Rattle.slab.specs.Slab.{get}
use Rattle.cip_clock.specs.Bounds.{bound_under}
use Rattle.cip_clock.proofs.Stale.{stale}
use Rattle.cip_hops.specs.Quiet.{deadline_of, IsBounded}
use Rattle.cip_hops.proofs.records.settled.Given as goal

abbrev pub invariant-settle : goal.invariant-settle
invariant-settle l = IsBounded l.kept l.times

abbrev pub decreases-settle : goal.decreases-settle
decreases-settle l = stale (bound_under deadline_of (get l.kept)) l.times
