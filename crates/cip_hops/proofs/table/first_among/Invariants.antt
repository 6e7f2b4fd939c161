use Rattle.std.proofs.Common.{◌≡◌, ℕ, take}
use Rattle.std.specs.List.{list_any}
use Rattle.slab.specs.Slab.{get}
use Rattle.cip_base.specs.Joined.{passes}
use Rattle.cip_hops.specs.Hops.{is_past, is_entry_due}
use Rattle.cip_hops.proofs.table.first_among.Given as goal

abbrev pub invariant-loop-pair : goal.invariant-loop-pair
invariant-loop-pair l = (time : ℕ) → is_past time l.first ≡ list_any (passes (is_entry_due time) (get l.records)) (take l.pair-index l.pairs)
