use Rattle.std.proofs.Common.{◌≡◌, ◌<◌, ℕ, true, sym, ap, subst, ◌∙◌, arith, nat_lt}
use Rattle.std.specs.Ordering.{nat_cmp}
use Rattle.std.specs.declared.cmp.Ordering.{Ordering}
use Rattle.std.specs.FinMap as map
use Rattle.std.proofs.lemmas.Bool.Decides.{nat_tests}
use Rattle.cip_base.specs.Counts.{incarnation, reborn}
use Rattle.cip_base.specs.Index.{Index}
use Rattle.cip_base.specs.Triads.{triad_cmp}
use Rattle.cip_hops.specs.Hops.{has_next_incarnation, reset}
use Rattle.cip_hops.specs.Kept.{IsKept, hops}
use Rattle.cip_hops.proofs.Steps.{same_inside}
use Rattle.cip_hops.proofs.Answering.{fresh, kept_fresh, view_fresh}
use Rattle.cip_hops.proofs.table.HopTable.reset.Goals as goal

abbrev none_noted : {K : Type 0} (R : K → K → Ordering) → ℕ → Index R
none_noted R room = record { room = room; keys = map.empty }

pub invariant_of-self : goal.invariant_of-self
invariant_of-self c =
    let kept = c.self.invariant in
    let some = kept.some in
    let allowed : has_next_incarnation (hops c.self.inside) ≡ true = ap has_next_incarnation c.self.view_is ∙ c.requires in
    let more : incarnation c.self.inside.next < 65535 = grind (arith, nat_tests) in
    let room = c.self.inside.room in
    let made = same_inside room c.clear-5.new.self c.reborn-self-inside.ensures (c.clear.ensures ∙ ap (none_noted triad_cmp) kept.triads_room)
    (c.clear-2.ensures ∙ ap (none_noted nat_cmp) kept.ups_room) (c.clear-3.ensures ∙ ap (none_noted nat_cmp) kept.downs_room)
    (c.clear-4.ensures ∙ ap (none_noted nat_cmp) kept.ops_room) in
    subst IsKept (sym made)
    (kept_fresh room (reborn c.self.inside.next) c.clear-5.new.self c.clear-5.ensures.empty
    (omega (arith, c.clear-5.ensures.capacity, kept.records_room)) (omega arith) (omega (arith, more)))

pub returns : goal.returns
returns c =
    let kept = c.self.invariant in
    let room = c.self.inside.room in
    let made = same_inside room c.clear-5.new.self c.reborn-self-inside.ensures (c.clear.ensures ∙ ap (none_noted triad_cmp) kept.triads_room)
    (c.clear-2.ensures ∙ ap (none_noted nat_cmp) kept.ups_room) (c.clear-3.ensures ∙ ap (none_noted nat_cmp) kept.downs_room)
    (c.clear-4.ensures ∙ ap (none_noted nat_cmp) kept.ops_room) in
    ap hops made ∙ view_fresh room (reborn c.self.inside.next) c.clear-5.new.self c.clear-5.ensures.empty ∙ ap reset c.self.view_is
