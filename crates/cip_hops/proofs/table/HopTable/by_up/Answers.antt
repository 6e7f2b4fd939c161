use Rattle.std.proofs.Common.{◌≡◌, true, false, None, Some, sym, ap, ◌∙◌}
use Rattle.std.specs.Option.{option_copied}
use Rattle.cip_hops.specs.Hops.{hop_by_up}
use Rattle.cip_hops.proofs.Named.{no_up, up_opening, up_gives}
use Rattle.cip_hops.proofs.table.HopTable.by_up.Goals as goal

pub returns-in_err-key : goal.returns-in_err-key
returns-in_err-key c =
    ap option_copied c.from_residual.ensures
    ∙ sym (no_up c.self.inside c.self.invariant c.args.id c.args.port c.args.address.now (sym c.in_err-key.ensures))
    ∙ ap (λ p. hop_by_up p c.args.id c.args.port c.args.address.now) c.self.view_is

pub returns-in_err-get : goal.returns-in_err-get
returns-in_err-get c =
    let s = c.self.invariant.by_up.sound c.args.id c.in_ok-key.key (sym c.in_ok-key.ensures) in
    let none : None ≡ Some s.held = c.in_err-get.ensures ∙ s.stands in absurd (cc)

pub returns-in_err-hop : goal.returns-in_err-hop
returns-in_err-hop c =
    ap option_copied c.from_residual-in_err-hop.ensures
    ∙ sym (up_opening c.self.inside c.self.invariant c.args.id c.args.port c.args.address.now c.in_ok-key.key c.in_ok-get.field-0.now
    (sym c.in_ok-key.ensures) (sym c.in_ok-get.ensures) (sym c.in_err-hop.ensures))
    ∙ ap (λ p. hop_by_up p c.args.id c.args.port c.args.address.now) c.self.view_is

pub returns-then-is_at : goal.returns-then-is_at
returns-then-is_at c =
    sym (up_gives c.self.inside c.self.invariant c.args.id c.args.port c.args.address.now c.in_ok-key.key c.in_ok-get.field-0.now c.in_ok-hop.hop.now true
    (sym c.in_ok-key.ensures) (sym c.in_ok-get.ensures) (sym c.in_ok-hop.ensures) (sym c.if-is_at.ensures))
    ∙ ap (λ p. hop_by_up p c.args.id c.args.port c.args.address.now) c.self.view_is

pub returns-else-is_at : goal.returns-else-is_at
returns-else-is_at c =
    sym (up_gives c.self.inside c.self.invariant c.args.id c.args.port c.args.address.now c.in_ok-key.key c.in_ok-get.field-0.now c.in_ok-hop.hop.now false
    (sym c.in_ok-key.ensures) (sym c.in_ok-get.ensures) (sym c.in_ok-hop.ensures) (sym c.if-is_at.ensures))
    ∙ ap (λ p. hop_by_up p c.args.id c.args.port c.args.address.now) c.self.view_is
