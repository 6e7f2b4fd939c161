use Rattle.std.proofs.Common.{◌≡◌, Some, None, refl, sym, ap, ◌∙◌, ◌==◌}
use Rattle.std.specs.List.{position}
use Rattle.cip_target.proofs.Keeping.{Entry, key_is, fits_at, kept_set}
use Rattle.cip_target.proofs.Changes.{no_place, disown_over, disown_missing}
use Rattle.cip_target.proofs.assemblies.Assemblies.disown.Goals as goal

pub invariant_of-self : goal.invariant_of-self
invariant_of-self c =
    let at : position (λ e. e.0 == c.args.instance) c.self.inside.held.items ≡ Some c.in-Some.at =
    ap (position (λ (e : Entry). e.0 == c.args.instance)) (sym c.deref.ensures.value) ∙ sym c.in-Some.ensures in
    let there = key_is c.self.inside.held.items c.args.instance c.in-Some.at c.index_mut.result.now at c.index_mut.ensures.value in
    kept_set c.self.inside.held.items c.in-Some.at c.index_mut.result.now
    (c.index_mut.result.now.0, record { bytes = c.index_mut.result.now.1.bytes; owner = None }) c.self.invariant there.0 c.index_mut.ensures.value refl
    (fits_at c.self.inside.held.items c.in-Some.at c.index_mut.result.now c.self.invariant there.0 c.index_mut.ensures.value)

pub returns-in-Some : goal.returns-in-Some
returns-in-Some c =
    let at : position (λ e. e.0 == c.args.instance) c.self.inside.held.items ≡ Some c.in-Some.at =
    ap (position (λ (e : Entry). e.0 == c.args.instance)) (sym c.deref.ensures.value) ∙ sym c.in-Some.ensures in
    disown_over c.self.inside.held.items c.args.instance c.in-Some.at c.index_mut.result.now c.args.self.now c.self.invariant
    (at, c.index_mut.ensures.value) c.self.view_is

pub returns-in_default : goal.returns-in_default
returns-in_default c =
    let none =
    no_place c.place_of.result (position (λ (e : Entry). e.0 == c.args.instance) c.self.inside.held.items)
    (c.place_of.ensures ∙ ap (position (λ (e : Entry). e.0 == c.args.instance)) c.deref.ensures.value) c.in_default.not-Some in
    disown_missing c.self.inside.held.items c.args.instance c.args.self.now c.self.invariant none c.self.view_is
