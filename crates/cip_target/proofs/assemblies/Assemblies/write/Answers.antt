use Rattle.std.proofs.Common.{◌≡◌, ℕ, List, length, Some, refl, sym, ap, subst, ◌∙◌, ◌==◌, ◌≤◌}
use Rattle.std.specs.List.{position}
use Rattle.cip_base.specs.declared.limits.TheConstants.{MAX_DATUM}
use Rattle.cip_target.proofs.Keeping.{Entry, key_is, fits_at, kept_set}
use Rattle.cip_target.proofs.Changes.{no_place, write_over, same_length, always_there}
use Rattle.cip_target.proofs.assemblies.Assemblies.write.Goals as goal

pub overwrite-requires : goal.overwrite-requires
overwrite-requires c =
    let at : position (λ e. e.0 == c.args.instance) c.self.inside.held.items ≡ Some c.in-Some.at =
    ap (position (λ (e : Entry). e.0 == c.args.instance)) (sym c.deref.ensures.value) ∙ sym c.in-Some.ensures in
    same_length c.self.inside.held.items c.args.instance c.in-Some.at c.index_mut.result.now c.args.bytes.now c.args.self.now c.self.invariant
    (at, c.index_mut.ensures.value) c.self.view_is c.requires

pub invariant_of-self : goal.invariant_of-self
invariant_of-self c =
    let at : position (λ e. e.0 == c.args.instance) c.self.inside.held.items ≡ Some c.in-Some.at =
    ap (position (λ (e : Entry). e.0 == c.args.instance)) (sym c.deref.ensures.value) ∙ sym c.in-Some.ensures in
    let there = key_is c.self.inside.held.items c.args.instance c.in-Some.at c.index_mut.result.now at c.index_mut.ensures.value in
    let long =
    same_length c.self.inside.held.items c.args.instance c.in-Some.at c.index_mut.result.now c.args.bytes.now c.args.self.now c.self.invariant
    (at, c.index_mut.ensures.value) c.self.view_is c.requires in
    let fits : length c.overwrite.new.self ≤ MAX_DATUM =
    subst (λ (n : ℕ). n ≤ MAX_DATUM) (sym (ap (λ (z : List ℕ). length z) c.overwrite.ensures ∙ long))
    (fits_at c.self.inside.held.items c.in-Some.at c.index_mut.result.now c.self.invariant there.0 c.index_mut.ensures.value) in
    kept_set c.self.inside.held.items c.in-Some.at c.index_mut.result.now (
      c.index_mut.result.now.0,
      record { bytes = c.overwrite.new.self; owner = c.index_mut.result.now.1.owner },
    ) c.self.invariant there.0 c.index_mut.ensures.value refl fits

pub returns-in-Some : goal.returns-in-Some
returns-in-Some c =
    let at : position (λ e. e.0 == c.args.instance) c.self.inside.held.items ≡ Some c.in-Some.at =
    ap (position (λ (e : Entry). e.0 == c.args.instance)) (sym c.deref.ensures.value) ∙ sym c.in-Some.ensures in
    write_over c.self.inside.held.items c.args.instance c.in-Some.at c.index_mut.result.now c.overwrite.new.self c.args.bytes.now c.args.self.now
    c.self.invariant (at, c.index_mut.ensures.value) c.overwrite.ensures c.self.view_is

pub returns-in_default : goal.returns-in_default
returns-in_default c =
    let none =
    no_place c.place_of.result (position (λ (e : Entry). e.0 == c.args.instance) c.self.inside.held.items)
    (c.place_of.ensures ∙ ap (position (λ (e : Entry). e.0 == c.args.instance)) c.deref.ensures.value) c.in_default.not-Some in
    absurd (always_there c.self.inside.held.items c.args.instance c.args.bytes.now c.args.self.now c.self.invariant none c.self.view_is c.requires)
