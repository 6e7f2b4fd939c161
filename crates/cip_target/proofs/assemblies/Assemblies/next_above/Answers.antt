use Rattle.std.proofs.Common.{◌≡◌, ℕ, List, Some, None, sym, ap, ◌∙◌, Bor}
use Rattle.std.specs.List.{position}
use Rattle.std.specs.Option.{option_map}
use Rattle.cip_target.specs.Assemblies.{is_above}
use Rattle.cip_target.proofs.Keeping.{Entry}
use Rattle.cip_target.proofs.Changes.{first_found, first_missing}
use Rattle.cip_target.proofs.assemblies.Assemblies.next_above.Goals as goal

pub returns-in_err-at : goal.returns-in_err-at
returns-in_err-at c =
    let at : position (λ e. is_above c.args.after e.0) c.self.inside.held.items ≡ None =
    ap (position (λ (e : Entry). is_above c.args.after e.0)) (sym c.deref.ensures.value) ∙ sym c.in_err-at.ensures in
    ap (option_map (λ (e : ℕ × Bor (List ℕ)). (e.0, e.1.now))) c.from_residual.ensures
    ∙ sym (first_missing c.self.inside.held.items c.args.after c.args.self.now c.self.invariant at c.self.view_is)

pub returns : goal.returns
returns c =
    let at : position (λ e. is_above c.args.after e.0) c.self.inside.held.items ≡ Some c.in_ok-at.at =
    ap (position (λ (e : Entry). is_above c.args.after e.0)) (sym c.deref.ensures.value) ∙ sym c.in_ok-at.ensures in
    ap (λ (d : List ℕ). Some (c.index-found.result.now.0, d)) c.as_slice.ensures
    ∙ sym (first_found c.self.inside.held.items c.args.after c.in_ok-at.at c.index-found.result.now c.args.self.now c.self.invariant at
    c.index-found.ensures c.self.view_is)
