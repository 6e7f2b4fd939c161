use Rattle.std.proofs.Common.{◌≡◌, true, false, Some, None, IsSome, sym, ap, subst, ◌∙◌, Option}
use Rattle.cip_pending.specs.declared.entry.Entry.{Entry}
use Rattle.cip_pending.specs.Pendings.{waiting_at, without, is_asked}
use Rattle.cip_pending.specs.Kept.{IsKept, pendings}
use Rattle.cip_pending.proofs.Steps.{waiting_none, waiting_is, with_order, kept_drop, view_drop}
use Rattle.cip_pending.proofs.table.PendingTable.take.Goals as goal

pub returns-in_err-key-clause-value : goal.returns-in_err-key-clause-value
returns-in_err-key-clause-value c =
    c.from_residual.ensures
    ∙ sym (waiting_none c.self.inside c.self.invariant c.args.number c.args.port c.args.address.now (sym c.in_err-key.ensures))
    ∙ ap (λ p. waiting_at p c.args.number c.args.port c.args.address.now) c.self.view_is

pub returns-in_err-get-clause-value : goal.returns-in_err-get-clause-value
returns-in_err-get-clause-value c =
    let some : IsSome {T = Entry} None =
    subst (λ (o : Option Entry). IsSome o) (sym c.in_err-get.ensures) (c.self.invariant.present c.args.number c.in_ok-key.key (sym c.in_ok-key.ensures)) in
    absurd cc

pub returns-then-not-is_asked-clause-value : goal.returns-then-not-is_asked-clause-value
returns-then-not-is_asked-clause-value c =
    let asked : is_asked c.args.port c.args.address.now c.in_ok-get.field-0.now ≡ false = cc in
    sym (waiting_is c.self.inside c.self.invariant c.args.number c.args.port c.args.address.now c.in_ok-key.key c.in_ok-get.field-0.now false
    (sym c.in_ok-key.ensures) (sym c.in_ok-get.ensures) asked)
    ∙ ap (λ p. waiting_at p c.args.number c.args.port c.args.address.now) c.self.view_is

pub invariant_of-self : goal.invariant_of-self
invariant_of-self c =
    subst (λ m. IsKept (with_order c.self.inside.room c.self.inside.next c.remove.new.self m)) (sym c.forget.ensures)
    (kept_drop c.self.inside c.self.invariant c.remove.new.self c.args.number c.in_ok-key.key c.remove.result (sym c.in_ok-key.ensures)
    c.remove.ensures.updates c.remove.ensures.len c.remove.ensures.capacity)

pub returns-clause-value : goal.returns-clause-value
returns-clause-value c =
    let one : c.in_ok-get.field-0.now ≡ c.remove.result =
    let both : Some c.in_ok-get.field-0.now ≡ Some c.remove.result = c.in_ok-get.ensures ∙ c.remove.ensures.value in cc in
    let asked : is_asked c.args.port c.args.address.now c.remove.result ≡ true = ap (is_asked c.args.port c.args.address.now) (sym one) ∙ cc in
    sym (waiting_is c.self.inside c.self.invariant c.args.number c.args.port c.args.address.now c.in_ok-key.key c.remove.result true
    (sym c.in_ok-key.ensures) c.remove.ensures.value asked)
    ∙ ap (λ p. waiting_at p c.args.number c.args.port c.args.address.now) c.self.view_is

pub returns-clause-after : goal.returns-clause-after
returns-clause-after c =
    ap (λ m. pendings (with_order c.self.inside.room c.self.inside.next c.remove.new.self m)) c.forget.ensures
    ∙ view_drop c.self.inside c.self.invariant c.remove.new.self c.args.number c.in_ok-key.key c.remove.result (sym c.in_ok-key.ensures)
    c.remove.ensures.updates ∙ ap (λ p. without p c.args.number) c.self.view_is
