use Rattle.std.proofs.Common.{List, ℕ, Option, ap, sym, ◌∙◌, Some}
use Rattle.cip_base.specs.declared.triad.Triad.{Triad}
use Rattle.cip_hops.specs.declared.hop.Hop.{Hop}
use Rattle.cip_hops.specs.Hops.{first_after}
use Rattle.cip_hops.specs.Sides.{op_of}
use Rattle.cip_routing.specs.Resets.{opening_op, all_noted}
use Rattle.cip_steps.proofs.Ended.{opened_in, noted_next, none_next}
use Rattle.cip_routing.proofs.Walks.{opens_above, opens_all, hop_walks, hop_walked, hop_fewer}
use Rattle.cip_steps.proofs.target.note_open.Goals as goal

pub loop-hop-init : goal.loop-hop-init
loop-hop-init c = ap (λ (z : List Hop). all_noted c.args.ops.now.ops.items (opened_in z)) (opens_all c.args.hops.now)

pub loop-hop-smaller-in_ok-note : goal.loop-hop-smaller-in_ok-note
loop-hop-smaller-in_ok-note c =
    let h = c.args.hops.now in
    hop_fewer h c.is_within.ensures c.loop-hop.after c.in-Some.hop.now
    (c.in-Some.ensures ∙ ap (λ (o : Option Triad). first_after o h) c.as_ref.ensures.value)

pub loop-hop-smaller : goal.loop-hop-smaller
loop-hop-smaller c =
    let h = c.args.hops.now in
    hop_fewer h c.is_within.ensures c.loop-hop.after c.in-Some.hop.now
    (c.in-Some.ensures ∙ ap (λ (o : Option Triad). first_after o h) c.as_ref.ensures.value)

pub loop-hop-preserved-in_ok-note : goal.loop-hop-preserved-in_ok-note
loop-hop-preserved-in_ok-note c =
    let h = c.args.hops.now in
    let hop : Hop = c.in-Some.hop.now in
    let rest : List Hop = opens_above (Some hop.opening.triad) h in
    ap (λ (z : List ℕ). all_noted z (opened_in rest)) c.in_ok-note.ensures
    ∙ noted_next opening_op c.loop-hop.ops.ops.items hop rest (opens_above c.loop-hop.after h) c.in-Local.op
    (hop_walks h c.is_within.ensures c.loop-hop.after hop (c.in-Some.ensures ∙ ap (λ (o : Option Triad). first_after o h) c.as_ref.ensures.value))
    (ap op_of c.in-Local.is)
    ∙ c.loop-hop.invariant

pub loop-hop-preserved : goal.loop-hop-preserved
loop-hop-preserved c =
    let h = c.args.hops.now in
    let hop : Hop = c.in-Some.hop.now in
    let rest : List Hop = opens_above (Some hop.opening.triad) h in
    none_next opening_op c.loop-hop.ops.ops.items hop rest (opens_above c.loop-hop.after h)
    (hop_walks h c.is_within.ensures c.loop-hop.after hop (c.in-Some.ensures ∙ ap (λ (o : Option Triad). first_after o h) c.as_ref.ensures.value))
    (ap op_of c.in_default-up.is)
    ∙ c.loop-hop.invariant

pub returns : goal.returns
returns c =
    let h = c.args.hops.now in
    sym (ap (λ (z : List Hop). all_noted c.loop-hop.ops.ops.items (opened_in z))
    (hop_walked h c.loop-hop.after (c.in_default.ensures ∙ ap (λ (o : Option Triad). first_after o h) c.as_ref.ensures.value)))
    ∙ c.loop-hop.invariant
