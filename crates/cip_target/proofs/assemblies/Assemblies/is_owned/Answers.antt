use Rattle.std.proofs.Common.{◌≡◌, Option, Some, None, sym, ap, ◌∙◌, ◌==◌}
use Rattle.std.specs.List.{position}
use Rattle.std.specs.Option.{is_some}
use Rattle.cip_base.specs.declared.triad.Triad.{Triad}
use Rattle.cip_target.proofs.Keeping.{Entry}
use Rattle.cip_target.proofs.Changes.{owner_found, owner_missing}
use Rattle.cip_target.proofs.assemblies.Assemblies.is_owned.Goals as goal

pub returns-in-None : goal.returns-in-None
returns-in-None c =
    let at : position (λ e. e.0 == c.args.instance) c.self.inside.held.items ≡ None =
    ap (position (λ (e : Entry). e.0 == c.args.instance)) (sym c.deref.ensures.value) ∙ sym c.in-None.ensures in
    ap (λ (o : Option Triad). is_some o) (sym (owner_missing c.self.inside.held.items c.args.instance c.args.self.now c.self.invariant at c.self.view_is))

pub returns-in-Some : goal.returns-in-Some
returns-in-Some c =
    let at : position (λ e. e.0 == c.args.instance) c.self.inside.held.items ≡ Some c.in-Some.at =
    ap (position (λ (e : Entry). e.0 == c.args.instance)) (sym c.deref.ensures.value) ∙ sym c.in-Some.ensures in
    c.is_some.ensures
    ∙ ap (λ (o : Option Triad). is_some o)
    (sym (owner_found c.self.inside.held.items c.args.instance c.in-Some.at c.index.result.now c.args.self.now c.self.invariant
    (at, c.index.ensures) c.self.view_is))
