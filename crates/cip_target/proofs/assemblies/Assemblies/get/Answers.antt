use Rattle.std.proofs.Common.{◌≡◌, ℕ, List, Some, None, sym, ap, ◌∙◌, ◌==◌, Bor}
use Rattle.std.specs.List.{position}
use Rattle.std.specs.Option.{option_map}
use Rattle.cip_target.proofs.Keeping.{Entry}
use Rattle.cip_target.proofs.Changes.{bytes_found, bytes_missing}
use Rattle.cip_target.proofs.assemblies.Assemblies.get.Goals as goal

pub returns-in_err-at-clause-value : goal.returns-in_err-at-clause-value
returns-in_err-at-clause-value c =
    let at : position (λ e. e.0 == c.args.instance) c.self.inside.held.items ≡ None =
    ap (position (λ (e : Entry). e.0 == c.args.instance)) (sym c.deref.ensures.value) ∙ sym c.in_err-at.ensures in
    ap (option_map (λ (d : Bor (List ℕ)). d.now)) c.from_residual.ensures
    ∙ sym (bytes_missing c.self.inside.held.items c.args.instance c.args.self.now c.self.invariant at c.self.view_is)

pub returns-clause-value : goal.returns-clause-value
returns-clause-value c =
    let at : position (λ e. e.0 == c.args.instance) c.self.inside.held.items ≡ Some c.in_ok-at.at =
    ap (position (λ (e : Entry). e.0 == c.args.instance)) (sym c.deref.ensures.value) ∙ sym c.in_ok-at.ensures in
    ap (λ (d : List ℕ). Some d) c.as_slice.ensures
    ∙ sym (bytes_found c.self.inside.held.items c.args.instance c.in_ok-at.at c.index.result.now c.args.self.now c.self.invariant
    (at, c.index.ensures) c.self.view_is)
