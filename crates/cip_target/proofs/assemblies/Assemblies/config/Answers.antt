use Rattle.std.proofs.Common.{◌≡◌, ℕ, List, Some, None, sym, ap, ◌∙◌, ◌==◌}
use Rattle.std.specs.List.{position}
use Rattle.std.specs.Option.{option_map}
use Rattle.cip_target.specs.Assemblies.{config_with}
use Rattle.cip_target.proofs.Keeping.{Entry, key_is}
use Rattle.cip_target.proofs.Changes.{bytes_found, bytes_missing}
use Rattle.cip_target.proofs.assemblies.Assemblies.config.Goals as goal

pub returns-in_err-at : goal.returns-in_err-at
returns-in_err-at c =
    let at : position (λ e. e.0 == c.args.instance) c.self.inside.held.items ≡ None =
    ap (position (λ (e : Entry). e.0 == c.args.instance)) (sym c.deref.ensures.value) ∙ sym c.in_err-at.ensures in
    c.from_residual.ensures
    ∙ ap (option_map (config_with c.args.instance))
    (sym (bytes_missing c.self.inside.held.items c.args.instance c.args.self.now c.self.invariant at c.self.view_is))

pub returns : goal.returns
returns c =
    let at : position (λ e. e.0 == c.args.instance) c.self.inside.held.items ≡ Some c.in_ok-at.at =
    ap (position (λ (e : Entry). e.0 == c.args.instance)) (sym c.deref.ensures.value) ∙ sym c.in_ok-at.ensures in
    let there = key_is c.self.inside.held.items c.args.instance c.in_ok-at.at c.index-found.result.now at c.index-found.ensures in
    ap (λ (i : ℕ). Some (config_with i c.as_slice.result.now)) there.1 ∙ ap (λ (d : List ℕ). Some (config_with c.args.instance d)) c.as_slice.ensures
    ∙ ap (option_map (config_with c.args.instance))
    (sym (bytes_found c.self.inside.held.items c.args.instance c.in_ok-at.at c.index-found.result.now c.args.self.now c.self.invariant
    (at, c.index-found.ensures) c.self.view_is))
