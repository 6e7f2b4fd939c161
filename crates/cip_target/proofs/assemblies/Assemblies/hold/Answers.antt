use Rattle.std.proofs.Common.{◌≡◌, List, Some, None, refl, sym, ap, subst, ◌∙◌, nat_le}
use Rattle.std.specs.List.{position}
use Rattle.cip_target.specs.Held.{IsHeld, holdings}
use Rattle.cip_target.proofs.Keeping.{Entry, the_map, kept_set, kept_push, kept_insert, within, same_at}
use Rattle.cip_target.proofs.Changes.{hold_push, hold_insert, put_over}
use Rattle.cip_target.proofs.assemblies.Assemblies.hold.Goals as goal

pub invariant_of-self : goal.invariant_of-self
invariant_of-self c =
    let at : position (λ e. nat_le c.args.instance e.0) c.self.inside.held.items ≡ None =
    ap (position (λ (e : Entry). nat_le c.args.instance e.0)) (sym c.deref.ensures.value) ∙ sym c.in-None.ensures in
    subst IsHeld (sym c.in_ok-push-in-None.ensures.items)
    (kept_push c.self.inside.held.items c.args.instance (record { bytes = c.args.bytes; owner = None }) c.self.invariant at c.requires)

pub returns-in_ok-push-in-None : goal.returns-in_ok-push-in-None
returns-in_ok-push-in-None c =
    let at : position (λ e. nat_le c.args.instance e.0) c.self.inside.held.items ≡ None =
    ap (position (λ (e : Entry). nat_le c.args.instance e.0)) (sym c.deref.ensures.value) ∙ sym c.in-None.ensures in
    ap (λ (es : List Entry). holdings (the_map es)) c.in_ok-push-in-None.ensures.items
    ∙ hold_push c.self.inside.held.items c.args.instance
    (record { bytes = c.args.bytes; owner = None }) c.args.self.now c.self.invariant at c.self.view_is

pub invariant_of-self-then-index-instance : goal.invariant_of-self-then-index-instance
invariant_of-self-then-index-instance c =
    let at : position (λ e. nat_le c.args.instance e.0) c.self.inside.held.items ≡ Some c.in-Some.at =
    ap (position (λ (e : Entry). nat_le c.args.instance e.0)) (sym c.deref.ensures.value) ∙ sym c.in-Some.ensures in
    kept_set c.self.inside.held.items c.in-Some.at c.index_mut.result.now
    (c.index_mut.result.now.0, (record { bytes = c.args.bytes; owner = None })) c.self.invariant
    (within c.self.inside.held.items c.args.instance c.in-Some.at at) c.index_mut.ensures.value refl c.requires

pub returns-then-index-instance : goal.returns-then-index-instance
returns-then-index-instance c =
    let at : position (λ e. nat_le c.args.instance e.0) c.self.inside.held.items ≡ Some c.in-Some.at =
    ap (position (λ (e : Entry). nat_le c.args.instance e.0)) (sym c.deref.ensures.value) ∙ sym c.in-Some.ensures in
    let lt = within c.self.inside.held.items c.args.instance c.in-Some.at at in
    let key =
    ap (λ (e : Entry). e.0) (c.index_mut.ensures.value ∙ same_at c.self.inside.held.items c.in-Some.at c.index_mut.result.now c.index.result.now lt
    ∙ sym c.index.ensures) ∙ c.if-index-instance.true in
    put_over c.self.inside.held.items c.in-Some.at c.index_mut.result.now c.args.instance
    (record { bytes = c.args.bytes; owner = None }) c.args.self.now c.self.invariant lt c.index_mut.ensures.value key c.self.view_is

pub invariant_of-self-in-Continue-branch-2 : goal.invariant_of-self-in-Continue-branch-2
invariant_of-self-in-Continue-branch-2 c =
    let at : position (λ e. nat_le c.args.instance e.0) c.self.inside.held.items ≡ Some c.in-Some.at =
    ap (position (λ (e : Entry). nat_le c.args.instance e.0)) (sym c.deref.ensures.value) ∙ sym c.in-Some.ensures in
    subst IsHeld (sym c.in_ok-insert-in-Some.ensures.items)
    (kept_insert c.self.inside.held.items c.args.instance c.in-Some.at c.index.result.now
    (record { bytes = c.args.bytes; owner = None }) c.self.invariant at c.index.ensures c.if-index-instance.false c.requires)

pub returns-in_ok-insert-in-Some : goal.returns-in_ok-insert-in-Some
returns-in_ok-insert-in-Some c =
    let at : position (λ e. nat_le c.args.instance e.0) c.self.inside.held.items ≡ Some c.in-Some.at =
    ap (position (λ (e : Entry). nat_le c.args.instance e.0)) (sym c.deref.ensures.value) ∙ sym c.in-Some.ensures in
    ap (λ (es : List Entry). holdings (the_map es)) c.in_ok-insert-in-Some.ensures.items
    ∙ hold_insert c.self.inside.held.items c.args.instance c.in-Some.at c.index.result.now
    (record { bytes = c.args.bytes; owner = None }) c.args.self.now c.self.invariant at c.index.ensures c.if-index-instance.false c.self.view_is
