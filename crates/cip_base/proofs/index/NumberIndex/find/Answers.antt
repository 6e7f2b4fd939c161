use Rattle.std.proofs.Common.{ℕ, List, get_or, Some, sym, ap, subst, ◌∙◌}
use Rattle.std.specs.FinMap as map
use Rattle.std.specs.Ordering.{nat_cmp}
use Rattle.std.specs.Cmp.{nat_cmp_total}
use Rattle.cip_base.specs.Rising.{StandsAt, FitsAt}
use Rattle.cip_base.specs.Index.{Index}
use Rattle.cip_base.proofs.Standing.{found_at, not_found}
use Rattle.cip_base.proofs.index.NumberIndex.find.Goals as goal

pub returns-in-Ok : goal.returns-in-Ok
returns-in-Ok c =
    let at = subst (λ (ps : List (ℕ × ℕ)). StandsAt ps c.args.number c.in-Ok.at) c.as_slice-pairs.ensures c.in-Ok.ensures in
    ap (λ (ps : List (ℕ × ℕ)). Some (get_or ps c.in-Ok.at (0, 0)).1) c.as_slice-pairs.ensures
    ∙ sym (found_at nat_cmp nat_cmp_total c.self.inside.pairs.items c.args.number c.in-Ok.at (0, 0) c.self.invariant at)
    ∙ ap (λ (m : Index nat_cmp). map.get m.keys c.args.number) c.self.view_is

pub returns-in-Err : goal.returns-in-Err
returns-in-Err c =
    let at = subst (λ (ps : List (ℕ × ℕ)). FitsAt nat_cmp ps c.args.number c.in-Err.field-0) c.as_slice-pairs.ensures c.in-Err.ensures in
    sym (not_found nat_cmp nat_cmp_total c.self.inside.pairs.items c.args.number c.in-Err.field-0 c.self.invariant at)
    ∙ ap (λ (m : Index nat_cmp). map.get m.keys c.args.number) c.self.view_is
