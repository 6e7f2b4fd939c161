use Rattle.std.proofs.Common.{ℕ, ◌+◌, ◌≤◌, Option, sym, ap, subst, ◌∙◌, arith}
use Rattle.cip_hops.specs.declared.opening.OwnIds.{OwnIds}
use Rattle.cip_hops.specs.Sides.{op_of, ids_drawn}
use Rattle.cip_hops.specs.Hops.{begun, IsOpFree}
use Rattle.cip_base.specs.Index.{noted}
use Rattle.cip_hops.specs.Kept.{IsKept, hops}
use Rattle.cip_hops.proofs.Answering.{accepted_at, inserted, if_some, ups_left, downs_left, ops_left}
use Rattle.cip_hops.proofs.Steps.{same_inside, kept_begun, view_begun, up_free, down_free, op_unused}
use Rattle.cip_hops.proofs.table.HopTable.begin.Goals as goal

pub insert_reserved-key-requires : goal.insert_reserved-key-requires
insert_reserved-key-requires c =
    let acc = accepted_at c.self.inside c.self.invariant c.args.self.now c.self.view_is c.args.opening.triad c.ids_drawn.result _ c.can_begin.ensures
    c.in-None.is in
    omega (arith, acc.1, c.self.invariant.records_room, c.self.invariant.count)

pub note-requires-clause-free : goal.note-requires-clause-free
note-requires-clause-free c =
    let acc = accepted_at c.self.inside c.self.invariant c.args.self.now c.self.view_is c.args.opening.triad c.ids_drawn.result _ c.can_begin.ensures
    c.in-None.is in acc.0

pub note-requires-clause-room : goal.note-requires-clause-room
note-requires-clause-room c =
    let acc = accepted_at c.self.inside c.self.invariant c.args.self.now c.self.view_is c.args.opening.triad c.ids_drawn.result _ c.can_begin.ensures
    c.in-None.is in
    omega (arith, acc.1, c.self.invariant.triads_room)

pub note-requires-in-None-clause-free : goal.note-requires-in-None-clause-free
note-requires-in-None-clause-free c =
    let acc = accepted_at c.self.inside c.self.invariant c.args.self.now c.self.view_is c.args.opening.triad c.ids_drawn.result _ c.can_begin.ensures
    c.in-None.is in
    let updates = inserted c.args.opening c.own_ids-ids.ensures c.insert_reserved-key.ensures.updates in
    if_some _ _
    (λ n e. up_free c.self.inside c.self.invariant c.args.opening c.insert_reserved-key.result c.insert_reserved-key.new.self
    c.insert_reserved-key.ensures.was_vacant updates acc.0 n (sym (ap (λ (d : OwnIds). d.up) c.own_ids-ids.ensures) ∙ e))

pub note-requires-in-None-clause-room : goal.note-requires-in-None-clause-room
note-requires-in-None-clause-room c =
    let acc = accepted_at c.self.inside c.self.invariant c.args.self.now c.self.view_is c.args.opening.triad c.ids_drawn.result _ c.can_begin.ensures
    c.in-None.is in
    ups_left c.self.inside c.self.invariant acc.1

pub note-requires-in-None-2-clause-free : goal.note-requires-in-None-2-clause-free
note-requires-in-None-2-clause-free c =
    let acc = accepted_at c.self.inside c.self.invariant c.args.self.now c.self.view_is c.args.opening.triad c.ids_drawn.result _ c.can_begin.ensures
    c.in-None.is in
    let updates = inserted c.args.opening c.own_ids-ids.ensures c.insert_reserved-key.ensures.updates in
    if_some _ _
    (λ n e. down_free c.self.inside c.self.invariant c.args.opening c.insert_reserved-key.result c.insert_reserved-key.new.self
    c.insert_reserved-key.ensures.was_vacant updates acc.0 n (sym (ap (λ (d : OwnIds). d.down) c.own_ids-ids.ensures) ∙ e))

pub note-requires-in-None-2-clause-room : goal.note-requires-in-None-2-clause-room
note-requires-in-None-2-clause-room c =
    let acc = accepted_at c.self.inside c.self.invariant c.args.self.now c.self.view_is c.args.opening.triad c.ids_drawn.result _ c.can_begin.ensures
    c.in-None.is in
    downs_left c.self.inside c.self.invariant acc.1

pub note-requires-in-None-3-clause-free : goal.note-requires-in-None-3-clause-free
note-requires-in-None-3-clause-free c =
    let acc = accepted_at c.self.inside c.self.invariant c.args.self.now c.self.view_is c.args.opening.triad c.ids_drawn.result _ c.can_begin.ensures
    c.in-None.is in
    let updates = inserted c.args.opening c.own_ids-ids.ensures c.insert_reserved-key.ensures.updates in
    let free = subst (λ p. IsOpFree p (op_of c.args.opening.up)) (sym c.self.view_is) c.requires.op in
    if_some _ _
    (λ n e. op_unused c.self.inside c.self.invariant c.args.opening c.insert_reserved-key.result c.insert_reserved-key.new.self
    c.insert_reserved-key.ensures.was_vacant updates acc.0 free n (sym c.op-op.ensures ∙ e))

pub note-requires-in-None-3-clause-room : goal.note-requires-in-None-3-clause-room
note-requires-in-None-3-clause-room c =
    let acc = accepted_at c.self.inside c.self.invariant c.args.self.now c.self.view_is c.args.opening.triad c.ids_drawn.result _ c.can_begin.ensures
    c.in-None.is in
    ops_left c.self.inside c.self.invariant acc.1

pub invariant_of-self : goal.invariant_of-self
invariant_of-self c =
    let acc = accepted_at c.self.inside c.self.invariant c.args.self.now c.self.view_is c.args.opening.triad c.ids_drawn.result _ c.can_begin.ensures
    c.in-None.is in
    let updates = inserted c.args.opening c.own_ids-ids.ensures c.insert_reserved-key.ensures.updates in
    let free = subst (λ p. IsOpFree p (op_of c.args.opening.up)) (sym c.self.view_is) c.requires.op in
    let t = c.self.inside in
    let key = c.insert_reserved-key.result in
    let made = same_inside t.room c.insert_reserved-key.new.self
    (ap (λ n. t.next + n) (c.from.ensures ∙ c.ids_drawn-in-None.ensures.value)) c.note.ensures
    (c.note-in-None.ensures ∙ ap (λ (d : OwnIds). noted t.ups d.up key) c.own_ids-ids.ensures)
    (c.note-in-None-2.ensures ∙ ap (λ (d : OwnIds). noted t.downs d.down key) c.own_ids-ids.ensures)
    (c.note-in-None-3.ensures ∙ ap (λ (d : Option ℕ). noted t.ops d key) c.op-op.ensures) in
    let drawn : t.next + ids_drawn c.args.opening ≤ 4294967296 = subst (λ n. t.next + n ≤ 4294967296) c.ids_drawn.ensures.value acc.2 in
    subst IsKept (sym made)
    (kept_begun c.self.inside c.self.invariant c.args.opening c.insert_reserved-key.result c.insert_reserved-key.new.self
    c.insert_reserved-key.ensures.was_vacant updates acc.0 free c.requires.multiplier acc.1 drawn c.insert_reserved-key.ensures.len
    c.insert_reserved-key.ensures.capacity)

pub returns-in-None-clause-after : goal.returns-in-None-clause-after
returns-in-None-clause-after c =
    let acc = accepted_at c.self.inside c.self.invariant c.args.self.now c.self.view_is c.args.opening.triad c.ids_drawn.result _ c.can_begin.ensures
    c.in-None.is in
    let updates = inserted c.args.opening c.own_ids-ids.ensures c.insert_reserved-key.ensures.updates in
    let t = c.self.inside in
    let key = c.insert_reserved-key.result in
    let made = same_inside t.room c.insert_reserved-key.new.self
    (ap (λ n. t.next + n) (c.from.ensures ∙ c.ids_drawn-in-None.ensures.value)) c.note.ensures
    (c.note-in-None.ensures ∙ ap (λ (d : OwnIds). noted t.ups d.up key) c.own_ids-ids.ensures)
    (c.note-in-None-2.ensures ∙ ap (λ (d : OwnIds). noted t.downs d.down key) c.own_ids-ids.ensures)
    (c.note-in-None-3.ensures ∙ ap (λ (d : Option ℕ). noted t.ops d key) c.op-op.ensures) in
    ap hops made
    ∙ view_begun c.self.inside c.self.invariant c.args.opening c.insert_reserved-key.result c.insert_reserved-key.new.self
    c.insert_reserved-key.ensures.was_vacant updates acc.0 ∙ ap (λ p. begun p c.args.opening) c.self.view_is
