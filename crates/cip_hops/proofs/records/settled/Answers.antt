use Rattle.std.proofs.Common.{◌≡◌, ◌<◌, ℕ, List, get_or, set, sym, ap, subst, ◌∙◌, arith}
use Rattle.std.proofs.lemmas.List.{length-set}
use Rattle.slab.specs.Slab.{get}
use Rattle.cip_clock.specs.Bounds.{bound_under, IsFirstBound}
use Rattle.cip_clock.proofs.Bounded.{settled, first}
use Rattle.cip_clock.proofs.Stale.{stale, fewer}
use Rattle.cip_hops.specs.Quiet.{deadline_of, IsBounded}
use Rattle.cip_hops.proofs.records.settled.Goals as goal

pub returns-then-bound-clause-first : goal.returns-then-bound-clause-first
returns-then-bound-clause-first c =
    let found = get c.args.kept.now in
    let key = c.first-key.result in
    let is : get_or c.settle.times key 0 ≡ bound_under deadline_of found key = omega (arith, c.bound.ensures, c.bound_at-bound.ensures) in
    subst (λ (k : ℕ). IsFirstBound deadline_of found k) (sym c.bound_at-bound.ensures)
    (first deadline_of found c.settle.times key c.settle.invariant.bounded c.first-key.ensures.least is)

pub settle-smaller : goal.settle-smaller
settle-smaller c =
    let truth = bound_under deadline_of (get c.args.kept.now) in
    let key = c.first-key.result in
    subst (λ (bs : List ℕ). stale truth bs < stale truth c.settle.times)
    (sym (c.set.ensures ∙ ap (set c.settle.times key) c.bound_at-bound.ensures))
    (fewer truth c.settle.times key c.first-key.ensures.within (λ same. absurd (omega (arith, c.bound.ensures, c.bound_at-bound.ensures, same))))

pub settle-preserved : goal.settle-preserved
settle-preserved c =
    let found = get c.args.kept.now in
    let key = c.first-key.result in
    subst (IsBounded c.args.kept.now) (sym (c.set.ensures ∙ ap (set c.settle.times key) c.bound_at-bound.ensures)) (record {
      room = simp length-set (omega (arith, c.settle.invariant.room));
      bounded = settled deadline_of found c.settle.times key c.settle.invariant.bounded c.first-key.ensures.within;
    })
