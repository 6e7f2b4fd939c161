use Rattle.std.proofs.Common.{◌+◌, sym, ap, subst, ◌∙◌, arith}
use Rattle.cip_pending.specs.Pendings.{refusal, added}
use Rattle.cip_pending.specs.Kept.{IsKept, pendings}
use Rattle.cip_pending.proofs.Steps.{room_left, next_free, with_order, kept_add, view_add}
use Rattle.cip_pending.proofs.table.PendingTable.add.Goals as goal

pub insert_reserved-key-requires : goal.insert_reserved-key-requires
insert_reserved-key-requires c =
    let left = room_left c.self.inside c.self.invariant (ap refusal c.self.view_is ∙ sym c.can_add.ensures ∙ c.in-None.is) in
    omega (arith, left.0, c.self.invariant.records_room, c.self.invariant.count)

pub note-requires-clause-free : goal.note-requires-clause-free
note-requires-clause-free c = next_free c.self.inside c.self.invariant

pub note-requires-clause-room : goal.note-requires-clause-room
note-requires-clause-room c =
    let left = room_left c.self.inside c.self.invariant (ap refusal c.self.view_is ∙ sym c.can_add.ensures ∙ c.in-None.is) in
    omega (arith, left.0, c.self.invariant.order_room)

pub invariant_of-self : goal.invariant_of-self
invariant_of-self c =
    let left = room_left c.self.inside c.self.invariant (ap refusal c.self.view_is ∙ sym c.can_add.ensures ∙ c.in-None.is) in
    subst (λ m. IsKept (with_order c.self.inside.room (c.self.inside.next + 1) c.insert_reserved-key.new.self m)) (sym c.note.ensures)
    (kept_add c.self.inside c.self.invariant c.insert_reserved-key.new.self c.insert_reserved-key.result c.args.entry
    c.insert_reserved-key.ensures.was_vacant c.insert_reserved-key.ensures.updates c.insert_reserved-key.ensures.len c.insert_reserved-key.ensures.capacity
    left.0 left.1)

pub returns-in-None-clause-after : goal.returns-in-None-clause-after
returns-in-None-clause-after c =
    ap (λ m. pendings (with_order c.self.inside.room (c.self.inside.next + 1) c.insert_reserved-key.new.self m)) c.note.ensures
    ∙ view_add c.self.inside c.self.invariant c.insert_reserved-key.new.self c.insert_reserved-key.result c.args.entry
    c.insert_reserved-key.ensures.was_vacant c.insert_reserved-key.ensures.updates
    ∙ ap (λ p. added p c.args.entry) c.self.view_is
