use Rattle.std.proofs.Common.{ℕ, ap, ◌∙◌}
use Rattle.std.specs.FinMap as map
use Rattle.std.specs.Ordering.{nat_cmp}
use Rattle.cip_base.specs.Rows.{Row}
use Rattle.cip_base.specs.Index.{Index, emptied}
use Rattle.cip_base.proofs.Sorted.{from_sorted-none}
use Rattle.cip_base.proofs.index.NumberIndex.clear.Goals as goal

pub returns : goal.returns
returns c =
    let view : Row (ℕ × ℕ) → Index nat_cmp = λ r. record { room = r.room; keys = map.from_sorted r.items } in
    let with : map.FinMap nat_cmp ℕ → Index nat_cmp = λ keys. record { room = c.self.inside.pairs.room; keys = keys } in
    ap view c.clear.ensures ∙ ap with (from_sorted-none _) ∙ ap (λ (m : Index nat_cmp). emptied m) c.self.view_is
