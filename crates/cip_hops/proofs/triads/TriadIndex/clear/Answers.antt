use Rattle.std.proofs.Common.{ℕ, ap, ◌∙◌}
use Rattle.std.specs.FinMap as map
use Rattle.cip_base.specs.Triads.{triad_cmp}
use Rattle.cip_base.specs.declared.triad.Triad.{Triad}
use Rattle.cip_base.specs.Rows.{Row}
use Rattle.cip_base.specs.Index.{Index, emptied}
use Rattle.cip_base.proofs.Sorted.{from_sorted-none}
use Rattle.cip_hops.proofs.triads.TriadIndex.clear.Goals as goal

pub returns : goal.returns
returns c =
    let view : Row (Triad × ℕ) → Index triad_cmp = λ r. record { room = r.room; keys = map.from_sorted r.items } in
    let with : map.FinMap triad_cmp ℕ → Index triad_cmp = λ keys. record { room = c.self.inside.pairs.room; keys = keys } in
    ap view c.clear.ensures ∙ ap with (from_sorted-none _) ∙ ap (λ (m : Index triad_cmp). emptied m) c.self.view_is
