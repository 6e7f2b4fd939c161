use Rattle.std.proofs.Common.{◌++◌, ◌∷◌, [], List, ap, ◌∙◌, Some, None}
use Rattle.std.specs.Prelude.{map}
use Rattle.cip_hops.specs.declared.hop.Hop.{Hop}
use Rattle.cip_hops.specs.Hops.{first_after}
use Rattle.cip_routing.specs.declared.tables.HopRow.{HopRow}
use Rattle.cip_routing.specs.Views.{hop_row_of}
use Rattle.cip_routing.proofs.Walks.{opens_above, hop_walks, hop_walked, hop_fewer, opens_all, row_more, rows_done}
use Rattle.cip_routing.proofs.show.hop_rows.Goals as goal

pub loop-hop-init : goal.loop-hop-init
loop-hop-init c =
    ap (λ (z : List HopRow). z ++ map hop_row_of (opens_above None c.args.hops.now)) c.new-rows.ensures.items
    ∙ ap (map hop_row_of) (opens_all c.args.hops.now)

pub loop-hop-smaller : goal.loop-hop-smaller
loop-hop-smaller c = hop_fewer c.args.hops.now c.is_within.ensures c.loop-hop.after c.in-Some.hop.now
    (c.in-Some.ensures ∙ ap (λ a. first_after a c.args.hops.now) c.as_ref.ensures.value)

pub loop-hop-preserved : goal.loop-hop-preserved
loop-hop-preserved c =
    let left : List Hop = opens_above (Some c.in-Some.hop.now.opening.triad) c.args.hops.now in
    ap (λ (z : List HopRow). z ++ map hop_row_of left) c.in_ok-push.ensures.items
    ∙ ap (λ (z : HopRow). (c.loop-hop.rows.items ++ z ∷ []) ++ map hop_row_of left) c.in_ok-hop_row.ensures
    ∙ row_more hop_row_of c.in-Some.hop.now left (opens_above c.loop-hop.after c.args.hops.now) c.loop-hop.rows.items
    (hop_walks c.args.hops.now c.is_within.ensures c.loop-hop.after c.in-Some.hop.now
    (c.in-Some.ensures ∙ ap (λ a. first_after a c.args.hops.now) c.as_ref.ensures.value))
    ∙ c.loop-hop.invariant

pub returns : goal.returns
returns c = rows_done hop_row_of (opens_above c.loop-hop.after c.args.hops.now) c.loop-hop.rows.items
    (hop_walked c.args.hops.now c.loop-hop.after (c.in_default.ensures ∙ ap (λ a. first_after a c.args.hops.now) c.as_ref.ensures.value)) ∙ c.loop-hop.invariant
