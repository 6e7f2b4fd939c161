use Rattle.std.proofs.Common.{arith, ◌≡◌, ap, ◌∙◌}
use Rattle.std.proofs.lemmas.Grind.{common_steps}
use Rattle.std.specs.FinMap as map
use Rattle.cip_target.specs.Held.{Holdings}
use Rattle.cip_target.proofs.Holding.{none-removed}
use Rattle.cip_target.proofs.target.zeroed_assemblies.Goals as goal

pub loop-config-preserved : goal.loop-config-preserved
loop-config-preserved c =
    let none : c.hold.new.self.owners ≡ map.empty = ap (λ (h : Holdings). h.owners) c.in_ok-hold.ensures
    ∙ none-removed c.loop-config.assemblies.owners _ c.loop-config.invariant.2 in
    (grind (arith, common_steps), grind (arith, common_steps), none)
