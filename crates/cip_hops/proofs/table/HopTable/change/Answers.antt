use Rattle.std.proofs.Common.{◌≡◌, Option, None, IsSomeAnd, sym, ap, subst, ◌∙◌}
use Rattle.std.specs.FinMap as map
use Rattle.cip_hops.specs.declared.hop.Held.{Held}
use Rattle.cip_hops.specs.Changes.{Suits}
use Rattle.cip_hops.specs.Hops.{Hops}
use Rattle.cip_hops.proofs.Steps.{held_none}
use Rattle.cip_hops.proofs.Changes.{meant, kept_after, view_after}
use Rattle.cip_hops.proofs.table.HopTable.change.Goals as goal

pub unreachable-requires : goal.unreachable-requires
unreachable-requires c =
    let none : map.get c.args.self.now.held c.args.triad.now ≡ None =
    ap (λ (p : Hops). map.get p.held c.args.triad.now) (sym c.self.view_is)
    ∙ held_none c.self.inside c.self.invariant c.args.triad.now (sym c.in_default.ensures) in
    subst (λ (o : Option Held). IsSomeAnd o (Suits c.args.change)) none c.requires

pub change-requires : goal.change-requires
change-requires c =
    meant c.self.inside c.self.invariant c.args.self.now c.self.view_is c.args.triad.now c.in-Some.key (sym c.in-Some.ensures) c.args.change c.requires

pub invariant_of-self : goal.invariant_of-self
invariant_of-self c =
    kept_after c.self.inside c.self.invariant c.args.self.now c.self.view_is c.args.triad.now c.in-Some.key (sym c.in-Some.ensures) c.args.change
    c.requires c.change.new.self c.change.ensures

pub returns : goal.returns
returns c =
    view_after c.self.inside c.self.invariant c.args.self.now c.self.view_is c.args.triad.now c.in-Some.key (sym c.in-Some.ensures) c.args.change
    c.requires c.change.new.self c.change.ensures
