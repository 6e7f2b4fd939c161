use Rattle.std.proofs.Common.{ℕ, List, Option, Some, None, IsSome, sym, ap, subst, ◌∙◌}
use Rattle.std.specs.FinMap as map
use Rattle.cip_base.specs.Triads.{triad_cmp}
use Rattle.cip_base.specs.declared.triad.Triad.{Triad}
use Rattle.cip_base.proofs.Triads.{triads_total, exact_triads}
use Rattle.cip_base.specs.Rising.{IsRising, StandsAt, FitsAt}
use Rattle.cip_base.specs.Rows.{Row}
use Rattle.cip_base.specs.Index.{Index, forgot}
use Rattle.cip_base.proofs.Standing.{not_found, rising_remove, map_remove}
use Rattle.cip_hops.proofs.triads.TriadIndex.forget.Goals as goal

pub unreachable-requires : goal.unreachable-requires
unreachable-requires c =
    let at = subst (λ (ps : List (Triad × ℕ)). FitsAt triad_cmp ps c.args.triad.now c.in_default.field-0) c.as_slice.ensures c.in_default.ensures in
    let none = ap (λ (m : Index triad_cmp). map.get m.keys c.args.triad.now) (sym c.self.view_is)
    ∙ not_found triad_cmp triads_total c.self.inside.pairs.items c.args.triad.now c.in_default.field-0 c.self.invariant at in
    let some : IsSome {T = ℕ} None = subst (λ (o : Option ℕ). IsSome o) none (c.requires) in cc

pub invariant_of-self : goal.invariant_of-self
invariant_of-self c =
    let at = subst (λ (ps : List (Triad × ℕ)). StandsAt ps c.args.triad.now c.in-Ok.at) c.as_slice.ensures c.in-Ok.ensures in
    subst (λ (r : Row (Triad × ℕ)). IsRising triad_cmp r.items) (sym c.remove.ensures)
    (rising_remove triad_cmp triads_total c.self.inside.pairs.items c.args.triad.now c.in-Ok.at c.self.invariant at)

pub returns : goal.returns
returns c =
    let at = subst (λ (ps : List (Triad × ℕ)). StandsAt ps c.args.triad.now c.in-Ok.at) c.as_slice.ensures c.in-Ok.ensures in
    let view : Row (Triad × ℕ) → Index triad_cmp = λ r. record { room = r.room; keys = map.from_sorted r.items } in
    let with : map.FinMap triad_cmp ℕ → Index triad_cmp = λ keys. record { room = c.self.inside.pairs.room; keys = keys } in
    ap view c.remove.ensures
    ∙ ap with
    (map_remove triad_cmp triads_total exact_triads c.self.inside.pairs.items c.args.triad.now c.in-Ok.at c.self.invariant at)
    ∙ ap (λ (m : Index triad_cmp). forgot m (Some c.args.triad.now)) c.self.view_is
