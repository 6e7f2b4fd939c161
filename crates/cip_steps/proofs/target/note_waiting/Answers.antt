use Rattle.std.proofs.Common.{List, ℕ, Option, ap, sym, ◌∙◌, Some}
use Rattle.std.specs.FinMap as finite
use Rattle.cip_pending.specs.declared.entry.Entry.{Entry}
use Rattle.cip_routing.specs.Resets.{asking_op, all_noted}
use Rattle.cip_steps.proofs.Ended.{waiting_in, noted_next, none_next}
use Rattle.cip_routing.proofs.Walks.{above, walks, walked, fewer, all_left}
use Rattle.cip_steps.proofs.target.note_waiting.Goals as goal

abbrev asks : ℕ × Entry → Option ℕ
asks e = asking_op e.1.up

pub loop-number-init : goal.loop-number-init
loop-number-init c =
    ap (λ (z : List (ℕ × Entry)). all_noted c.args.ops.now.ops.items (waiting_in z)) (all_left (finite.entries c.args.pendings.now.entries))

pub loop-number-smaller-in_ok-note : goal.loop-number-smaller-in_ok-note
loop-number-smaller-in_ok-note c = fewer c.args.pendings.now c.loop-number.after (c.in-Some.number, c.in-Some.entry.now) c.in-Some.ensures

pub loop-number-smaller : goal.loop-number-smaller
loop-number-smaller c = fewer c.args.pendings.now c.loop-number.after (c.in-Some.number, c.in-Some.entry.now) c.in-Some.ensures

pub loop-number-preserved-in_ok-note : goal.loop-number-preserved-in_ok-note
loop-number-preserved-in_ok-note c =
    let all : List (ℕ × Entry) = finite.entries c.args.pendings.now.entries in
    let rest : List (ℕ × Entry) = above (Some c.in-Some.number) all in
    let waiting : ℕ × Entry = (c.in-Some.number, c.in-Some.entry.now) in
    ap (λ (z : List ℕ). all_noted z (waiting_in rest)) c.in_ok-note.ensures
    ∙ noted_next asks c.loop-number.ops.ops.items waiting rest (above c.loop-number.after all) c.in-Local.op
    (walks c.args.pendings.now c.loop-number.after waiting c.in-Some.ensures) (ap asking_op c.in-Local.is)
    ∙ c.loop-number.invariant

pub loop-number-preserved : goal.loop-number-preserved
loop-number-preserved c =
    let all : List (ℕ × Entry) = finite.entries c.args.pendings.now.entries in
    let rest : List (ℕ × Entry) = above (Some c.in-Some.number) all in
    let waiting : ℕ × Entry = (c.in-Some.number, c.in-Some.entry.now) in
    none_next asks c.loop-number.ops.ops.items waiting rest (above c.loop-number.after all)
    (walks c.args.pendings.now c.loop-number.after waiting c.in-Some.ensures) (ap asking_op c.in_default-up.is)
    ∙ c.loop-number.invariant

pub returns : goal.returns
returns c =
    sym (ap (λ (z : List (ℕ × Entry)). all_noted c.loop-number.ops.ops.items (waiting_in z))
    (walked c.args.pendings.now c.loop-number.after c.in_default.ensures))
    ∙ c.loop-number.invariant
