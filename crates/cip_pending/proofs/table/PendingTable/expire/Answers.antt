use Rattle.std.proofs.Common.{◌≡◌, get_or, Some, None, IsSome, Option, ℕ, refl, sym, ap, subst, ◌∙◌}
use Rattle.std.specs.List.{position}
use Rattle.std.specs.FinMap as map
use Rattle.slab.specs.Slab.{get}
use Rattle.cip_base.specs.Joined.{passes}
use Rattle.cip_pending.specs.Pendings.{is_due, first_due, without}
use Rattle.cip_pending.specs.Kept.{IsKept, pendings}
use Rattle.cip_pending.proofs.Steps.{due_none, due_is, due_at, pair_at, noted_at, with_order, kept_drop, view_drop}
use Rattle.cip_pending.proofs.Ticks.{both_lists}
use Rattle.cip_pending.proofs.table.PendingTable.expire.Goals as goal

pub returns-in_err-at-clause-value : goal.returns-in_err-at-clause-value
returns-in_err-at-clause-value c =
    let none : position (passes (is_due c.args.now) (get c.self.inside.records)) (map.entries c.self.inside.order.keys) ≡ None =
    ap (position (passes (is_due c.args.now) (get c.self.inside.records))) (sym c.pairs-pairs.ensures.all) ∙ sym c.in_err-at.ensures in
    c.from_residual.ensures ∙ sym (due_none c.self.inside c.self.invariant c.args.now none) ∙ ap (first_due c.args.now) c.self.view_is

pub forget-requires : goal.forget-requires
forget-requires c =
    let lt = due_at c.self.inside c.self.invariant c.args.now c.in_ok-at.at c.pairs-pairs.result.now c.pairs-pairs.ensures.all c.in_ok-at.ensures in
    let noted = noted_at c.self.inside c.self.invariant c.pairs-pairs.result.now c.in_ok-at.at c.pairs-pairs.ensures.all lt in
    subst (λ (o : Option ℕ). IsSome o) (sym noted) refl

pub remove-requires : goal.remove-requires
remove-requires c =
    let lt = due_at c.self.inside c.self.invariant c.args.now c.in_ok-at.at c.pairs-pairs.result.now c.pairs-pairs.ensures.all c.in_ok-at.ensures in
    c.self.invariant.present _ _ (noted_at c.self.inside c.self.invariant c.pairs-pairs.result.now c.in_ok-at.at c.pairs-pairs.ensures.all lt)

pub invariant_of-self : goal.invariant_of-self
invariant_of-self c =
    let lt = due_at c.self.inside c.self.invariant c.args.now c.in_ok-at.at c.pairs-pairs.result.now c.pairs-pairs.ensures.all c.in_ok-at.ensures in
    let noted = noted_at c.self.inside c.self.invariant c.pairs-pairs.result.now c.in_ok-at.at c.pairs-pairs.ensures.all lt in
    subst (λ m. IsKept (with_order c.self.inside.room c.self.inside.next c.remove.new.self m)) (sym c.forget.ensures)
    (kept_drop c.self.inside c.self.invariant c.remove.new.self _ _ c.remove.result noted c.remove.ensures.updates c.remove.ensures.len
    c.remove.ensures.capacity)

pub returns-clause-value : goal.returns-clause-value
returns-clause-value c =
    let lt = due_at c.self.inside c.self.invariant c.args.now c.in_ok-at.at c.pairs-pairs.result.now c.pairs-pairs.ensures.all c.in_ok-at.ensures in
    let here = pair_at c.self.inside c.self.invariant c.pairs-pairs.result.now c.in_ok-at.at c.pairs-pairs.ensures.all lt in
    let at : position (passes (is_due c.args.now) (get c.self.inside.records)) (map.entries c.self.inside.order.keys) ≡ Some c.in_ok-at.at =
    ap (position (passes (is_due c.args.now) (get c.self.inside.records))) (sym c.pairs-pairs.ensures.all) ∙ sym c.in_ok-at.ensures in
    sym (due_is c.self.inside c.self.invariant c.args.now c.in_ok-at.at (get_or c.pairs-pairs.result.now c.in_ok-at.at (0, 0)) c.remove.result at here.1
    c.remove.ensures.value) ∙ ap (first_due c.args.now) c.self.view_is

pub returns-clause-after : goal.returns-clause-after
returns-clause-after c =
    let lt = due_at c.self.inside c.self.invariant c.args.now c.in_ok-at.at c.pairs-pairs.result.now c.pairs-pairs.ensures.all c.in_ok-at.ensures in
    let noted = noted_at c.self.inside c.self.invariant c.pairs-pairs.result.now c.in_ok-at.at c.pairs-pairs.ensures.all lt in
    ap (λ m. pendings (with_order c.self.inside.room c.self.inside.next c.remove.new.self m)) c.forget.ensures
    ∙ view_drop c.self.inside c.self.invariant c.remove.new.self _ _ c.remove.result noted c.remove.ensures.updates
    ∙ ap (λ p. without p (get_or c.pairs-pairs.result.now c.in_ok-at.at (0, 0)).0) c.self.view_is

pub returns-clause-due : goal.returns-clause-due
returns-clause-due c =
    (both_lists c.args.now c.args.self.now (Some ((get_or c.pairs-pairs.result.now c.in_ok-at.at (0, 0)).0, c.remove.result)) _
    (returns-clause-value c) (returns-clause-after c)).0

pub returns-clause-rest : goal.returns-clause-rest
returns-clause-rest c =
    (both_lists c.args.now c.args.self.now (Some ((get_or c.pairs-pairs.result.now c.in_ok-at.at (0, 0)).0, c.remove.result)) _
    (returns-clause-value c) (returns-clause-after c)).1
