use Rattle.std.proofs.Common.{ap, arith, length}
use Rattle.std.specs.FinMap as map
use Rattle.cip_base.specs.Triads.{triad_cmp}
use Rattle.cip_base.proofs.Triads.{triads_total}
use Rattle.cip_base.specs.Index.{Index}
use Rattle.cip_base.proofs.Standing.{len_of}
use Rattle.cip_hops.proofs.triads.TriadIndex.len.Goals as goal

pub returns : goal.returns
returns c = let len = len_of triad_cmp triads_total c.self.inside.pairs.items c.self.invariant in let is =
    ap (λ (m : Index triad_cmp). map.len m.keys) c.self.view_is in omega (arith, len, is, ap length c.as_slice.ensures)
