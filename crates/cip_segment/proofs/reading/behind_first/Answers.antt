use Rattle.std.proofs.Common.{◌≡◌, true, arith}
use Rattle.std.specs.Prelude.{slice_index}
use Rattle.cip_segment.specs.Brief.{is_short}
use Rattle.cip_segment.proofs.Brief.{short_at}
use Rattle.cip_segment.proofs.reading.behind_first.Goals as goal

pub returns-then-is_short : goal.returns-then-is_short
returns-then-is_short c =
    let e : is_short (slice_index c.args.bytes.now 0) ≡ true = cc in
    short_at c.args.bytes.now (omega (arith, c.in-len2-up.len_at_least)) (λ i. omega (arith, c.type_inv.bytes i)) e
