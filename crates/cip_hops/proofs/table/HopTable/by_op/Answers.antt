use Rattle.std.proofs.Common.{◌≡◌, None, Some, sym, ap, ◌∙◌}
use Rattle.std.specs.Option.{option_copied}
use Rattle.cip_hops.specs.Hops.{hop_by_op}
use Rattle.cip_hops.proofs.Named.{no_op, op_gives}
use Rattle.cip_hops.proofs.table.HopTable.by_op.Goals as goal

pub returns-in_err-key : goal.returns-in_err-key
returns-in_err-key c = ap option_copied c.from_residual.ensures ∙ sym (no_op c.self.inside c.self.invariant c.args.op (sym c.in_err-key.ensures))
    ∙ ap (λ p. hop_by_op p c.args.op) c.self.view_is

pub returns-in_err-get : goal.returns-in_err-get
returns-in_err-get c =
    let s = c.self.invariant.by_op.sound c.args.op c.in_ok-key.key (sym c.in_ok-key.ensures) in
    let none : None ≡ Some s.held = c.in_err-get.ensures ∙ s.stands in absurd (cc)

pub returns : goal.returns
returns c =
    c.hop.ensures
    ∙ sym (op_gives c.self.inside c.self.invariant c.args.op c.in_ok-key.key c.in_ok-get.field-0.now (sym c.in_ok-key.ensures)
    (sym c.in_ok-get.ensures)) ∙ ap (λ p. hop_by_op p c.args.op) c.self.view_is
