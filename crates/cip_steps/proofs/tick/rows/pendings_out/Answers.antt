use Rattle.std.proofs.Common.{◌++◌, ◌∷◌, [], List, ℕ, cond, ap, sym, ◌∙◌, append_assoc, append-nil, Some}
use Rattle.std.specs.Prelude.{map, filter}
use Rattle.std.specs.FinMap as finite
use Rattle.std.proofs.lemmas.Bool.{le-leb, lt-leb}
use Rattle.cip_pending.specs.declared.entry.Entry.{Entry}
use Rattle.cip_pending.specs.Pendings.{is_due}
use Rattle.cip_event.specs.declared.event.Output.{Output}
use Rattle.cip_steps.specs.Code.Ticks.{shown}
use Rattle.cip_routing.proofs.Walks.{above, walks, walked, fewer, all_left}
use Rattle.cip_steps.proofs.tick.rows.pendings_out.Goals as goal

pub loop-number-init : goal.loop-number-init
loop-number-init c = ap (λ (z : List (ℕ × Entry)). c.args.outputs.now.items ++ map shown (filter (is_due c.args.now) z))
    (all_left (finite.entries c.args.pendings.now.entries))

pub loop-number-smaller-in_ok-push : goal.loop-number-smaller-in_ok-push
loop-number-smaller-in_ok-push c = fewer c.args.pendings.now c.loop-number.after (c.in-Some.number, c.in-Some.entry.now) c.in-Some.ensures

pub loop-number-smaller : goal.loop-number-smaller
loop-number-smaller c = fewer c.args.pendings.now c.loop-number.after (c.in-Some.number, c.in-Some.entry.now) c.in-Some.ensures

pub loop-number-preserved-in_ok-push : goal.loop-number-preserved-in_ok-push
loop-number-preserved-in_ok-push c =
    let left : List (ℕ × Entry) = above (Some c.in-Some.number) (finite.entries c.args.pendings.now.entries) in
    let waiting : ℕ × Entry = (c.in-Some.number, c.in-Some.entry.now) in
    ap (λ (z : List Output). z ++ map shown (filter (is_due c.args.now) left)) c.in_ok-push.ensures.items
    ∙ ap (λ (z : Output). (c.loop-number.outputs.items ++ z ∷ []) ++ map shown (filter (is_due c.args.now) left)) c.in_ok-timed_out.ensures
    ∙ append_assoc c.loop-number.outputs.items (shown waiting ∷ []) (map shown (filter (is_due c.args.now) left))
    ∙ ap (λ b. c.loop-number.outputs.items ++ map shown (cond b (waiting ∷ filter (is_due c.args.now) left) (filter (is_due c.args.now) left)))
    (sym (le-leb c.in-Some.entry.now.deadline c.args.now c.if-entry-now.true))
    ∙ ap (λ (z : List (ℕ × Entry)). c.loop-number.outputs.items ++ map shown (filter (is_due c.args.now) z))
    (sym (walks c.args.pendings.now c.loop-number.after waiting c.in-Some.ensures))
    ∙ c.loop-number.invariant

pub loop-number-preserved : goal.loop-number-preserved
loop-number-preserved c =
    let left : List (ℕ × Entry) = above (Some c.in-Some.number) (finite.entries c.args.pendings.now.entries) in
    let waiting : ℕ × Entry = (c.in-Some.number, c.in-Some.entry.now) in
    ap (λ b. c.loop-number.outputs.items ++ map shown (cond b (waiting ∷ filter (is_due c.args.now) left) (filter (is_due c.args.now) left)))
    (sym (lt-leb c.in-Some.entry.now.deadline c.args.now c.if-entry-now.false))
    ∙ ap (λ (z : List (ℕ × Entry)). c.loop-number.outputs.items ++ map shown (filter (is_due c.args.now) z))
    (sym (walks c.args.pendings.now c.loop-number.after waiting c.in-Some.ensures))
    ∙ c.loop-number.invariant

pub returns : goal.returns
returns c =
    sym (append-nil c.loop-number.outputs.items)
    ∙ ap (λ (z : List (ℕ × Entry)). c.loop-number.outputs.items ++ map shown (filter (is_due c.args.now) z))
    (sym (walked c.args.pendings.now c.loop-number.after c.in_default.ensures))
    ∙ c.loop-number.invariant
