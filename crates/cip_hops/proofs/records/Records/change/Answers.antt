use Rattle.std.proofs.Common.{IsSome, Option, sym, ap, subst, ◌∙◌, arith, min, get_or, set, refl}
use Rattle.std.proofs.lemmas.List.{length-set}
use Rattle.slab.specs.Slab.{get, with_value}
use Rattle.slab.proofs.SlabLemmas.{Updates-with_value}
use Rattle.cip_clock.specs.Bounds.{bound_of}
use Rattle.cip_clock.proofs.Bounded.{lowered}
use Rattle.cip_hops.specs.declared.hop.Held.{Held}
use Rattle.cip_hops.specs.Quiet.{deadline_of, IsBounded}
use Rattle.cip_hops.proofs.records.Records.change.Goals as goal

pub invariant_of-self : goal.invariant_of-self
invariant_of-self c =
    let kept = c.self.inside.kept in
    let times = c.self.inside.times in
    let key = c.args.key in
    let y = c.change.new.self in
    let found = sym c.in-Some.ensures.value in
    let updates = Updates-with_value kept key y (subst (λ (o : Option Held). IsSome o) (sym found) refl) in
    let was = c.self.invariant.bounded.early key c.in-Some.held.now found in
    subst (IsBounded (with_value kept key y))
    (sym (c.lower.ensures ∙ ap (λ time. set times key (min (get_or times key 0) time)) (c.bound_of-bound.ensures ∙ ap bound_of c.deadline.ensures)))
    (record {
      room = simp length-set (omega (arith, c.self.invariant.room));
      bounded = lowered deadline_of (get kept) (get (with_value kept key y)) times key y c.self.invariant.bounded was.0 updates.others updates.changed;
    })
