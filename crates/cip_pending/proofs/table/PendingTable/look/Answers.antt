use Rattle.std.proofs.Common.{true, false, None, IsSome, sym, ap, subst, ◌∙◌, Option}
use Rattle.std.specs.Option.{option_copied}
use Rattle.cip_pending.specs.declared.entry.Entry.{Entry}
use Rattle.cip_pending.specs.Pendings.{waiting_at}
use Rattle.cip_pending.proofs.Steps.{waiting_none, waiting_is}
use Rattle.cip_pending.proofs.table.PendingTable.look.Goals as goal

pub returns-in_err-key : goal.returns-in_err-key
returns-in_err-key c =
    ap option_copied c.from_residual.ensures
    ∙ sym (waiting_none c.self.inside c.self.invariant c.args.number c.args.port c.args.address.now (sym c.in_err-key.ensures))
    ∙ ap (λ p. waiting_at p c.args.number c.args.port c.args.address.now) c.self.view_is

pub returns-in_err-entry : goal.returns-in_err-entry
returns-in_err-entry c =
    let some : IsSome {T = Entry} None =
    subst (λ (o : Option Entry). IsSome o) (sym c.in_err-entry.ensures)
    (c.self.invariant.present c.args.number c.in_ok-key.key (sym c.in_ok-key.ensures)) in
    absurd cc

pub returns-then-is_asked : goal.returns-then-is_asked
returns-then-is_asked c =
    sym (waiting_is c.self.inside c.self.invariant c.args.number c.args.port c.args.address.now c.in_ok-key.key c.in_ok-entry.entry.now true
    (sym c.in_ok-key.ensures) (sym c.in_ok-entry.ensures) (sym c.if-is_asked.ensures))
    ∙ ap (λ p. waiting_at p c.args.number c.args.port c.args.address.now) c.self.view_is

pub returns-else-is_asked : goal.returns-else-is_asked
returns-else-is_asked c =
    sym (waiting_is c.self.inside c.self.invariant c.args.number c.args.port c.args.address.now c.in_ok-key.key c.in_ok-entry.entry.now false
    (sym c.in_ok-key.ensures) (sym c.in_ok-entry.ensures) (sym c.if-is_asked.ensures))
    ∙ ap (λ p. waiting_at p c.args.number c.args.port c.args.address.now) c.self.view_is
