use Rattle.std.proofs.Common.{sym, ap, subst, ◌∙◌, arith}
use Rattle.cip_hops.specs.Kept.{IsKept, hops}
use Rattle.cip_hops.proofs.Steps.{same_inside}
use Rattle.cip_hops.proofs.Answering.{kept_fresh, view_fresh}
use Rattle.cip_hops.proofs.table.HopTable.with_room.Goals as goal

pub invariant_of-result : goal.invariant_of-result
invariant_of-result c =
    let made = same_inside c.args.room c.in_ok-records.records c.from.ensures c.in_ok-triads.ensures c.in_ok-ups.ensures c.in_ok-downs.ensures
    c.in_ok-ops.ensures in
    subst IsKept (sym made)
    (kept_fresh c.args.room c.args.first c.in_ok-records.records c.in_ok-records.ensures.empty c.in_ok-records.ensures.capacity (omega (arith, c.requires))
    c.ranges.first.fits)

pub returns : goal.returns
returns c =
    let made = same_inside c.args.room c.in_ok-records.records c.from.ensures c.in_ok-triads.ensures c.in_ok-ups.ensures c.in_ok-downs.ensures
    c.in_ok-ops.ensures in
    ap hops made ∙ view_fresh c.args.room c.args.first c.in_ok-records.records c.in_ok-records.ensures.empty
