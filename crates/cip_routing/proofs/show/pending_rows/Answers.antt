use Rattle.std.proofs.Common.{◌++◌, ◌∷◌, [], List, ℕ, ap, ◌∙◌, Some, None}
use Rattle.std.specs.Prelude.{map}
use Rattle.std.specs.FinMap as finite
use Rattle.cip_pending.specs.declared.entry.Entry.{Entry}
use Rattle.cip_routing.specs.declared.tables.PendingRow.{PendingRow}
use Rattle.cip_routing.specs.Views.{row_of}
use Rattle.cip_routing.proofs.Walks.{above, walks, walked, fewer, all_left, row_more, rows_done}
use Rattle.cip_routing.proofs.show.pending_rows.Goals as goal

pub loop-number-init : goal.loop-number-init
loop-number-init c =
    ap (λ (z : List PendingRow). z ++ map row_of (above None (finite.entries c.args.pendings.now.entries))) c.new-rows.ensures.items
    ∙ ap (map row_of) (all_left (finite.entries c.args.pendings.now.entries))

pub loop-number-smaller : goal.loop-number-smaller
loop-number-smaller c = fewer c.args.pendings.now c.loop-number.after (c.in-Some.number, c.in-Some.entry.now) c.in-Some.ensures

pub loop-number-preserved : goal.loop-number-preserved
loop-number-preserved c =
    let left : List (ℕ × Entry) = above (Some c.in-Some.number) (finite.entries c.args.pendings.now.entries) in
    ap (λ (z : List PendingRow). z ++ map row_of left) c.in_ok-push.ensures.items
    ∙ ap (λ (z : Entry). (c.loop-number.rows.items ++ record { number = c.in-Some.number; entry = z } ∷ []) ++ map row_of left) c.copy.ensures
    ∙ row_more row_of (c.in-Some.number, c.in-Some.entry.now) left _ c.loop-number.rows.items
    (walks c.args.pendings.now c.loop-number.after (c.in-Some.number, c.in-Some.entry.now) c.in-Some.ensures)
    ∙ c.loop-number.invariant

pub returns : goal.returns
returns c = rows_done row_of _ c.loop-number.rows.items (walked c.args.pendings.now c.loop-number.after c.in_default.ensures) ∙ c.loop-number.invariant
