use Rattle.std.proofs.Common.{ℕ, List, get_or, Some, sym, ap, subst, ◌∙◌}
use Rattle.std.specs.FinMap as map
use Rattle.cip_base.specs.Triads.{triad_cmp}
use Rattle.cip_base.specs.declared.triad.Triad.{Triad}
use Rattle.cip_base.proofs.Triads.{triads_total}
use Rattle.cip_base.specs.Rising.{StandsAt, FitsAt}
use Rattle.cip_base.specs.Index.{Index}
use Rattle.cip_base.proofs.Standing.{found_at, not_found}
use Rattle.cip_hops.proofs.triads.TriadIndex.find.Goals as goal

pub returns-in-Ok : goal.returns-in-Ok
returns-in-Ok c =
    let at = subst (λ (ps : List (Triad × ℕ)). StandsAt ps c.args.triad.now c.in-Ok.at) c.as_slice-pairs.ensures c.in-Ok.ensures in
    let none : Triad = record { serial = 0; vendor = 0; originator = 0 } in
    ap (λ (ps : List (Triad × ℕ)). Some (get_or ps c.in-Ok.at (none, 0)).1) c.as_slice-pairs.ensures
    ∙ sym (found_at triad_cmp triads_total c.self.inside.pairs.items c.args.triad.now c.in-Ok.at (none, 0) c.self.invariant at)
    ∙ ap (λ (m : Index triad_cmp). map.get m.keys c.args.triad.now) c.self.view_is

pub returns-in-Err : goal.returns-in-Err
returns-in-Err c =
    let at = subst (λ (ps : List (Triad × ℕ)). FitsAt triad_cmp ps c.args.triad.now c.in-Err.field-0) c.as_slice-pairs.ensures c.in-Err.ensures in
    sym (not_found triad_cmp triads_total c.self.inside.pairs.items c.args.triad.now c.in-Err.field-0 c.self.invariant at)
    ∙ ap (λ (m : Index triad_cmp). map.get m.keys c.args.triad.now) c.self.view_is
