use Rattle.std.proofs.Common.{ap, arith, length}
use Rattle.std.specs.FinMap as map
use Rattle.std.specs.Ordering.{nat_cmp}
use Rattle.std.specs.Cmp.{nat_cmp_total}
use Rattle.cip_base.specs.Index.{Index}
use Rattle.cip_base.proofs.Standing.{len_of}
use Rattle.cip_base.proofs.index.NumberIndex.len.Goals as goal

pub returns : goal.returns
returns c = let len = len_of nat_cmp nat_cmp_total c.self.inside.pairs.items c.self.invariant in let is =
    ap (λ (m : Index nat_cmp). map.len m.keys) c.self.view_is in omega (arith, len, is, ap length c.as_slice.ensures)
