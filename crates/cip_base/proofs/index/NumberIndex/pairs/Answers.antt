use Rattle.std.proofs.Common.{sym, ap, ◌∙◌}
use Rattle.std.specs.FinMap as map
use Rattle.std.specs.Ordering.{nat_cmp}
use Rattle.cip_base.specs.Index.{Index}
use Rattle.cip_base.proofs.index.NumberIndex.pairs.Goals as goal

pub returns-clause-all : goal.returns-clause-all
returns-clause-all c = c.as_slice.ensures ∙ sym (map.entries-from_sorted nat_cmp c.self.inside.pairs.items c.self.invariant)
    ∙ ap (λ (m : Index nat_cmp). map.entries m.keys) c.self.view_is
