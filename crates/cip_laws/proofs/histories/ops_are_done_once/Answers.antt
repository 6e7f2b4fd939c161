use Rattle.std.proofs.Common.{◌≡◌, true, refl, ap, ◌∙◌, arith}
use Rattle.std.proofs.lemmas.Bool.{eq-eqb}
use Rattle.cip_pending.specs.declared.entry.UpSide.{UpSide}
use Rattle.cip_pending.specs.declared.entry.UpSide.TheVariants.{Local}
use Rattle.cip_laws.specs.Histories.{state_after}
use Rattle.cip_laws.specs.Weights.{same_up}
use Rattle.cip_laws.proofs.Dones.{done_once}
use Rattle.cip_laws.proofs.OneReply.{waits_counted}
use Rattle.cip_laws.proofs.histories.ops_are_done_once.Goals as goal

pub returns-clause-done : goal.returns-clause-done
returns-clause-done c = λ config turns h op. let all = done_once op config turns h in omega (arith, all)

pub returns-clause-waiting : goal.returns-clause-waiting
returns-clause-waiting c = λ config turns h op n p at up_is.
    let same : same_up p.up (Local op) ≡ true = ap (λ (u : UpSide). same_up u (Local op)) up_is ∙ eq-eqb op op refl in
    let all = done_once op config turns h in
    let one = waits_counted (Local op) (state_after config turns) n p at same in
    omega (arith, all, one)
