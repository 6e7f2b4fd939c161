use Rattle.std.proofs.Common.{sym, ap, subst, ◌∙◌}
use Rattle.slab.specs.Slab.{Slab}
use Rattle.cip_hops.specs.declared.hop.Held.{Held}
use Rattle.cip_hops.specs.declared.hop.Change.TheVariants.{Touch}
use Rattle.cip_hops.specs.Onwards.{onward_of}
use Rattle.cip_hops.specs.Kept.{IsKept, hops}
use Rattle.cip_hops.proofs.Changes.{with_records, changed_one, meant_one}
use Rattle.cip_hops.proofs.Onwards.{no_hop, no_record, no_open, elsewhere, one_hop, meant_on, kept_on, gone_on}
use Rattle.cip_hops.proofs.table.HopTable.pass_on.Goals as goal

pub returns-in_err-key-clause-value : goal.returns-in_err-key-clause-value
returns-in_err-key-clause-value c =
    c.from_residual.ensures
    ∙ ap (onward_of c.args.side c.args.size)
    (sym (no_hop c.self.inside c.self.invariant c.args.self.now c.self.view_is c.args.id c.args.port c.args.address.now c.args.side (sym
    c.in_err-key.ensures)))

pub returns-in_err-get-clause-value : goal.returns-in_err-get-clause-value
returns-in_err-get-clause-value c =
    absurd (no_record c.self.inside c.self.invariant c.args.self.now c.self.view_is c.args.id c.args.port c.args.address.now c.args.side
    c.in_ok-key.key (sym c.in_ok-key.ensures)
    (sym c.in_err-get.ensures))

pub returns-in_err-hop-clause-value : goal.returns-in_err-hop-clause-value
returns-in_err-hop-clause-value c =
    c.from_residual-in_err-hop.ensures
    ∙ ap (onward_of c.args.side c.args.size)
    (sym (no_open c.self.inside c.self.invariant c.args.self.now c.self.view_is c.args.id c.args.port c.args.address.now c.args.side
    c.in_ok-key.key (sym c.in_ok-key.ensures)
    c.in_ok-get.field-0.now (sym c.in_ok-get.ensures)
    (sym c.in_err-hop.ensures)))

pub returns-then-not-is_at-clause-value : goal.returns-then-not-is_at-clause-value
returns-then-not-is_at-clause-value c =
    ap (onward_of c.args.side c.args.size)
    (sym (elsewhere c.self.inside c.self.invariant c.args.self.now c.self.view_is c.args.id c.args.port c.args.address.now c.args.side
    c.in_ok-key.key (sym c.in_ok-key.ensures)
    c.in_ok-get.field-0.now (sym c.in_ok-get.ensures) c.in_ok-hop.hop.now (sym c.in_ok-hop.ensures) (sym c.if-not-is_at.ensures)))

pub returns-in_err-onward-clause-value : goal.returns-in_err-onward-clause-value
returns-in_err-onward-clause-value c =
    c.from_residual-in_err-onward.ensures ∙ c.in_err-onward.ensures
    ∙ ap (onward_of c.args.side c.args.size)
    (sym (one_hop c.self.inside c.self.invariant c.args.self.now c.self.view_is c.args.id c.args.port c.args.address.now c.args.side
    c.in_ok-key.key (sym c.in_ok-key.ensures)
    c.in_ok-get.field-0.now (sym c.in_ok-get.ensures) c.in_ok-hop.hop.now (sym c.in_ok-hop.ensures) (sym c.if-not-is_at.ensures)))

pub change-requires : goal.change-requires
change-requires c =
    meant_one c.self.inside.records c.in_ok-key.key (Touch c.args.side c.args.now) c.in_ok-get.field-0.now (sym c.in_ok-get.ensures)
    (meant_on c.self.inside c.self.invariant c.args.self.now c.self.view_is c.args.id c.args.port c.args.address.now c.args.side
    c.in_ok-key.key (sym c.in_ok-key.ensures)
    c.in_ok-get.field-0.now (sym c.in_ok-get.ensures) c.in_ok-hop.hop.now (sym c.in_ok-hop.ensures) c.args.now c.requires)

pub invariant_of-self : goal.invariant_of-self
invariant_of-self c =
    let is = changed_one c.self.inside.records c.in_ok-key.key (Touch c.args.side c.args.now) c.change.new.self c.in_ok-get.field-0.now
    (sym c.in_ok-get.ensures) c.change.ensures in
    subst (λ (r : Slab Held). IsKept (with_records c.self.inside r)) (sym is)
    (kept_on c.self.inside c.self.invariant c.args.self.now c.self.view_is c.args.id c.args.port c.args.address.now c.args.side
    c.in_ok-key.key (sym c.in_ok-key.ensures)
    c.in_ok-get.field-0.now (sym c.in_ok-get.ensures) c.in_ok-hop.hop.now (sym c.in_ok-hop.ensures) c.args.now c.requires)

pub returns-clause-value : goal.returns-clause-value
returns-clause-value c = c.in_ok-onward.ensures
    ∙ ap (onward_of c.args.side c.args.size)
    (sym (one_hop c.self.inside c.self.invariant c.args.self.now c.self.view_is c.args.id c.args.port c.args.address.now c.args.side
    c.in_ok-key.key (sym c.in_ok-key.ensures)
    c.in_ok-get.field-0.now (sym c.in_ok-get.ensures) c.in_ok-hop.hop.now (sym c.in_ok-hop.ensures) (sym c.if-not-is_at.ensures)))

pub returns-clause-after : goal.returns-clause-after
returns-clause-after c =
    let is = changed_one c.self.inside.records c.in_ok-key.key (Touch c.args.side c.args.now) c.change.new.self c.in_ok-get.field-0.now
    (sym c.in_ok-get.ensures) c.change.ensures in
    ap (λ (r : Slab Held). hops (with_records c.self.inside r)) is
    ∙ gone_on c.self.inside c.self.invariant c.args.self.now c.self.view_is c.args.id c.args.port c.args.address.now c.args.side
    c.in_ok-key.key (sym c.in_ok-key.ensures)
    c.in_ok-get.field-0.now (sym c.in_ok-get.ensures) c.in_ok-hop.hop.now (sym c.in_ok-hop.ensures) c.args.now
    c.in_ok-onward.onward (sym c.if-not-is_at.ensures)
