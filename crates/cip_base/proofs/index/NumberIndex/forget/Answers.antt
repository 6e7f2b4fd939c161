use Rattle.std.proofs.Common.{ℕ, List, Option, Some, None, IfSome, IsSome, sym, ap, subst, ◌∙◌}
use Rattle.std.specs.FinMap as map
use Rattle.std.specs.Ordering.{nat_cmp}
use Rattle.std.specs.Cmp.{nat_cmp_total}
use Rattle.std.specs.FinMap.{nat_cmp-IsAntisymmetric}
use Rattle.cip_base.specs.Rising.{IsRising, StandsAt, FitsAt}
use Rattle.cip_base.specs.Rows.{Row}
use Rattle.cip_base.specs.Index.{Index, forgot}
use Rattle.cip_base.proofs.Standing.{not_found, rising_remove, map_remove}
use Rattle.cip_base.proofs.index.NumberIndex.forget.Goals as goal

pub unreachable-requires : goal.unreachable-requires
unreachable-requires c =
    let at =
    subst (λ
    (ps : List (ℕ × ℕ)). FitsAt nat_cmp ps c.in-Some.number c.in_default-place_of.field-0) c.as_slice.ensures c.in_default-place_of.ensures in
    let none = ap (λ (m : Index nat_cmp). map.get m.keys c.in-Some.number) (sym c.self.view_is)
    ∙ not_found nat_cmp nat_cmp_total c.self.inside.pairs.items c.in-Some.number c.in_default-place_of.field-0 c.self.invariant at in
    let some : IsSome {T = ℕ} None =
    subst (λ (o : Option ℕ). IsSome o) none
    (subst (λ (o : Option ℕ). IfSome o (λ n. IsSome (map.get c.args.self.now.keys n))) c.in-Some.is c.requires) in cc

pub invariant_of-self : goal.invariant_of-self
invariant_of-self c =
    let at = subst (λ (ps : List (ℕ × ℕ)). StandsAt ps c.in-Some.number c.in-Ok.at) c.as_slice.ensures c.in-Ok.ensures in
    subst (λ (r : Row (ℕ × ℕ)). IsRising nat_cmp r.items) (sym c.remove.ensures)
    (rising_remove nat_cmp nat_cmp_total c.self.inside.pairs.items c.in-Some.number c.in-Ok.at c.self.invariant at)

pub returns-in-Ok : goal.returns-in-Ok
returns-in-Ok c =
    let at = subst (λ (ps : List (ℕ × ℕ)). StandsAt ps c.in-Some.number c.in-Ok.at) c.as_slice.ensures c.in-Ok.ensures in
    let view : Row (ℕ × ℕ) → Index nat_cmp = λ r. record { room = r.room; keys = map.from_sorted r.items } in
    let with : map.FinMap nat_cmp ℕ → Index nat_cmp = λ keys. record { room = c.self.inside.pairs.room; keys = keys } in
    ap view c.remove.ensures
    ∙ ap with
    (map_remove nat_cmp nat_cmp_total nat_cmp-IsAntisymmetric c.self.inside.pairs.items c.in-Some.number c.in-Ok.at c.self.invariant at)
    ∙ ap (λ (m : Index nat_cmp). forgot m (Some c.in-Some.number)) c.self.view_is ∙ ap (forgot c.args.self.now) (sym c.in-Some.is)
