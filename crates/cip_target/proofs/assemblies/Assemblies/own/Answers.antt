use Rattle.std.proofs.Common.{◌≡◌, Some, refl, sym, ap, ◌∙◌, ◌==◌}
use Rattle.std.specs.List.{position}
use Rattle.cip_target.proofs.Keeping.{Entry, key_is, fits_at, kept_set}
use Rattle.cip_target.proofs.Changes.{no_place, same_entry, not_empty, is_empty, own_with, own_nothing, own_missing}
use Rattle.cip_target.proofs.assemblies.Assemblies.own.Goals as goal

pub invariant_of-self : goal.invariant_of-self
invariant_of-self c =
    let at : position (λ e. e.0 == c.args.instance) c.self.inside.held.items ≡ Some c.in-Some.at =
    ap (position (λ (e : Entry). e.0 == c.args.instance)) (sym c.deref.ensures.value) ∙ sym c.in-Some.ensures in
    let there = key_is c.self.inside.held.items c.args.instance c.in-Some.at c.index_mut.result.now at c.index_mut.ensures.value in
    kept_set c.self.inside.held.items c.in-Some.at c.index_mut.result.now (
      c.index_mut.result.now.0,
      record { bytes = c.index_mut.result.now.1.bytes; owner = Some c.args.triad },
    ) c.self.invariant there.0 c.index_mut.ensures.value refl
    (fits_at c.self.inside.held.items c.in-Some.at c.index_mut.result.now c.self.invariant there.0 c.index_mut.ensures.value)

pub returns-then-not-is_empty : goal.returns-then-not-is_empty
returns-then-not-is_empty c =
    let at : position (λ e. e.0 == c.args.instance) c.self.inside.held.items ≡ Some c.in-Some.at =
    ap (position (λ (e : Entry). e.0 == c.args.instance)) (sym c.deref.ensures.value) ∙ sym c.in-Some.ensures in
    let there = key_is c.self.inside.held.items c.args.instance c.in-Some.at c.index_mut.result.now at c.index_mut.ensures.value in
    let same =
    same_entry c.self.inside.held.items c.in-Some.at c.index.result.now c.index_mut.result.now there.0 c.index.ensures c.index_mut.ensures.value in
    own_with c.self.inside.held.items c.args.instance c.in-Some.at c.index_mut.result.now c.args.triad c.args.self.now c.self.invariant
    (at, c.index_mut.ensures.value)
    (not_empty c.is_empty.result c.as_slice.result.now c.index_mut.result.now.1.bytes c.if-not-is_empty.true c.is_empty.ensures
    (c.as_slice.ensures ∙ ap (λ (e : Entry). e.1.bytes) same)) c.self.view_is

pub returns-else-not-is_empty : goal.returns-else-not-is_empty
returns-else-not-is_empty c =
    let at : position (λ e. e.0 == c.args.instance) c.self.inside.held.items ≡ Some c.in-Some.at =
    ap (position (λ (e : Entry). e.0 == c.args.instance)) (sym c.deref.ensures.value) ∙ sym c.in-Some.ensures in
    own_nothing c.self.inside.held.items c.args.instance c.in-Some.at c.index.result.now c.args.triad c.args.self.now c.self.invariant (at, c.index.ensures)
    (is_empty c.is_empty.result c.as_slice.result.now c.index.result.now.1.bytes c.if-not-is_empty.false c.is_empty.ensures c.as_slice.ensures)
    c.self.view_is

pub returns-in_default : goal.returns-in_default
returns-in_default c =
    let none =
    no_place c.place_of.result (position (λ (e : Entry). e.0 == c.args.instance) c.self.inside.held.items)
    (c.place_of.ensures ∙ ap (position (λ (e : Entry). e.0 == c.args.instance)) c.deref.ensures.value) c.in_default.not-Some in
    own_missing c.self.inside.held.items c.args.instance c.args.triad c.args.self.now c.self.invariant none c.self.view_is
