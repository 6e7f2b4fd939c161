use Rattle.std.proofs.Common.{◌++◌, ◌∷◌, [], List, Option, cond, ap, sym, ◌∙◌, append_assoc, append-nil, Some}
use Rattle.std.specs.Prelude.{map, filter}
use Rattle.cip_base.specs.declared.triad.Triad.{Triad}
use Rattle.cip_hops.specs.declared.hop.Hop.{Hop}
use Rattle.cip_hops.specs.Hops.{is_timed_out, first_after}
use Rattle.cip_event.specs.declared.event.Output.{Output}
use Rattle.cip_steps.specs.Code.Ticks.{hop_timed_out}
use Rattle.cip_routing.proofs.Walks.{opens_above, opens_all, due_open, hop_walks, hop_walked, hop_fewer}
use Rattle.cip_steps.proofs.tick.rows.hops_out.Goals as goal

pub loop-hop-init : goal.loop-hop-init
loop-hop-init c =
    let h = c.args.hops.now in
    ap (λ (z : List Hop). c.args.outputs.now.items ++ map hop_timed_out (filter (is_timed_out c.args.now) z)) (opens_all h)
    ∙ ap (λ (z : List Hop). c.args.outputs.now.items ++ map hop_timed_out z) (sym (due_open c.args.now h))

pub loop-hop-smaller-in_ok-push : goal.loop-hop-smaller-in_ok-push
loop-hop-smaller-in_ok-push c =
    let h = c.args.hops.now in
    hop_fewer h c.is_within.ensures c.loop-hop.after c.in-Some.hop.now
    (c.in-Some.ensures ∙ ap (λ (o : Option Triad). first_after o h) c.as_ref.ensures.value)

pub loop-hop-smaller : goal.loop-hop-smaller
loop-hop-smaller c =
    let h = c.args.hops.now in
    hop_fewer h c.is_within.ensures c.loop-hop.after c.in-Some.hop.now
    (c.in-Some.ensures ∙ ap (λ (o : Option Triad). first_after o h) c.as_ref.ensures.value)

pub loop-hop-preserved-in_ok-push : goal.loop-hop-preserved-in_ok-push
loop-hop-preserved-in_ok-push c =
    let h = c.args.hops.now in
    let hop : Hop = c.in-Some.hop.now in
    let left : List Hop = opens_above (Some hop.opening.triad) h in
    ap (λ (z : List Output). z ++ map hop_timed_out (filter (is_timed_out c.args.now) left)) c.in_ok-push.ensures.items
    ∙ append_assoc c.loop-hop.outputs.items (hop_timed_out hop ∷ []) (map hop_timed_out (filter (is_timed_out c.args.now) left))
    ∙ ap (λ b. c.loop-hop.outputs.items ++ map hop_timed_out (cond b (hop ∷ filter (is_timed_out c.args.now) left) (filter (is_timed_out c.args.now) left)))
    (sym (sym c.is_timed_out.ensures ∙ c.if-is_timed_out.true))
    ∙ ap (λ (z : List Hop). c.loop-hop.outputs.items ++ map hop_timed_out (filter (is_timed_out c.args.now) z))
    (sym (hop_walks h c.is_within.ensures c.loop-hop.after hop (c.in-Some.ensures ∙ ap (λ (o : Option Triad). first_after o h) c.as_ref.ensures.value)))
    ∙ c.loop-hop.invariant

pub loop-hop-preserved : goal.loop-hop-preserved
loop-hop-preserved c =
    let h = c.args.hops.now in
    let hop : Hop = c.in-Some.hop.now in
    let left : List Hop = opens_above (Some hop.opening.triad) h in
    ap (λ b. c.loop-hop.outputs.items ++ map hop_timed_out (cond b (hop ∷ filter (is_timed_out c.args.now) left) (filter (is_timed_out c.args.now) left)))
    (sym (sym c.is_timed_out.ensures ∙ c.if-is_timed_out.false))
    ∙ ap (λ (z : List Hop). c.loop-hop.outputs.items ++ map hop_timed_out (filter (is_timed_out c.args.now) z))
    (sym (hop_walks h c.is_within.ensures c.loop-hop.after hop (c.in-Some.ensures ∙ ap (λ (o : Option Triad). first_after o h) c.as_ref.ensures.value)))
    ∙ c.loop-hop.invariant

pub returns : goal.returns
returns c =
    let h = c.args.hops.now in
    sym (append-nil c.loop-hop.outputs.items)
    ∙ ap (λ (z : List Hop). c.loop-hop.outputs.items ++ map hop_timed_out (filter (is_timed_out c.args.now) z))
    (sym (hop_walked h c.loop-hop.after (c.in_default.ensures ∙ ap (λ (o : Option Triad). first_after o h) c.as_ref.ensures.value)))
    ∙ c.loop-hop.invariant
