use Rattle.std.proofs.Common.{◌≡◌, ◌<◌, true, sym, ap, subst, ◌∙◌, arith, nat_lt}
use Rattle.std.specs.FinMap as map
use Rattle.std.proofs.lemmas.Bool.Decides.{nat_tests}
use Rattle.cip_base.specs.Counts.{incarnation, reborn}
use Rattle.cip_pending.specs.Pendings.{has_next_incarnation, reset}
use Rattle.cip_pending.specs.Kept.{IsKept, pendings}
use Rattle.cip_pending.proofs.Fresh.{fresh, none_noted, kept_fresh, view_fresh}
use Rattle.cip_pending.proofs.table.PendingTable.reset.Goals as goal

pub invariant_of-self : goal.invariant_of-self
invariant_of-self c =
    let some = c.self.invariant.some in
    let allowed : has_next_incarnation (pendings c.self.inside) ≡ true = ap has_next_incarnation c.self.view_is ∙ c.requires in
    let more : incarnation c.self.inside.next < 65535 = grind (arith, nat_tests) in
    let next = c.reborn-self-inside.result in
    let none = c.clear.ensures ∙ ap none_noted c.self.invariant.order_room in
    subst (λ m. IsKept (fresh c.self.inside.room next c.clear-2.new.self m)) (sym none)
    (kept_fresh c.self.inside.room next c.clear-2.new.self c.clear-2.ensures.empty
    (omega (arith, c.clear-2.ensures.capacity, c.self.invariant.records_room)) (omega (arith, c.reborn-self-inside.ensures))
    (omega (arith, c.reborn-self-inside.ensures, more)))

pub returns : goal.returns
returns c =
    let next = c.reborn-self-inside.result in
    let none = c.clear.ensures ∙ ap none_noted c.self.invariant.order_room in
    ap (λ m. pendings (fresh c.self.inside.room next c.clear-2.new.self m)) none
    ∙ view_fresh c.self.inside.room next c.clear-2.new.self c.clear-2.ensures.empty
    ∙ (λ i. record { room = c.self.inside.room; next = c.reborn-self-inside.ensures i; entries = map.empty })
    ∙ ap reset c.self.view_is
