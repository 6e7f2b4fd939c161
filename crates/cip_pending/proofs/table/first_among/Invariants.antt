use Rattle.std.proofs.Common.{◌≡◌, ℕ, take}
use Rattle.std.specs.List.{list_any}
use Rattle.slab.specs.Slab.{get}
use Rattle.cip_base.specs.Joined.{passes}
use Rattle.cip_pending.specs.Pendings.{is_due}
use Rattle.cip_pending.specs.Quiet.{is_reached}
use Rattle.cip_pending.proofs.table.first_among.Given as goal

abbrev pub invariant-loop-pair : goal.invariant-loop-pair
invariant-loop-pair l = (time : ℕ) → is_reached time l.first ≡ list_any (passes (is_due time) (get l.records)) (take l.pair-index l.pairs)
