-- Of what asked for an up side, each is replied to or waits, at most.
use Rattle.std.proofs.Common.{◌≡◌, ℕ, ◌+◌, ◌≤◌, true, List, Some, None, sym, ap, ◌∙◌, arith}
use Rattle.std.specs.FinMap as map
use Rattle.std.specs.Cmp.{nat_cmp_total}
use Rattle.std.specs.Ordering.{nat_cmp}
use Rattle.cip_pending.specs.declared.entry.Entry as entries
use Rattle.cip_pending.specs.declared.entry.UpSide.{UpSide}
use Rattle.cip_base.proofs.Lengths.{one_if}
use Rattle.cip_hops.proofs.Counts.{tally-le, tally-remove}
use Rattle.cip_laws.specs.EffectLists.{takes_up}
use Rattle.cip_config.specs.declared.config.ModuleSettings.{ModuleSettings}
use Rattle.cip_routing.specs.State.{State, initial_state}
use Rattle.cip_routing.proofs.Fits.{numbers_apart}
use Rattle.cip_laws.specs.Histories.{Turn, state_after, IsHistory}
use Rattle.cip_laws.specs.Weights.{same_up, is_reply, is_asked_by, weight, came}
use Rattle.cip_laws.proofs.Claims.{waits_for, claims_each}
use Rattle.cip_laws.proofs.Puts.{AreBelow, below_after}
use Rattle.cip_laws.proofs.TakenUp.{takes_once}
use Rattle.cip_laws.proofs.Weighing.{history_conserved}

pub none_wait : (config : ModuleSettings) (up : UpSide) → waits_for up (initial_state config) ≡ 0
none_wait config up =
    let small = tally-le nat_cmp (λ (p : entries.Entry). same_up p.up up) (initial_state config).pendings.entries in let none =
    map.len-empty nat_cmp entries.Entry in omega (arith, small, none)

none_below : (config : ModuleSettings) → AreBelow (initial_state config)
none_below config n p at = let none : None ≡ Some p = sym (map.get-empty {X = entries.Entry} nat_cmp n) ∙ at in absurd (cc)

-- of what asked for an up side: each is replied to, or waits, at most
pub claims : (config : ModuleSettings) (up : UpSide) (turns : List Turn) → IsHistory config turns
    → AreBelow (state_after config turns) × (weight (is_reply up) turns + waits_for up (state_after config turns) ≤ came (is_asked_by up) turns)
claims config up turns h =
    let all = history_conserved config (is_reply up) (waits_for up) (takes_up up) AreBelow (λ s e g. below_after config s e g)
    (λ s e g. claims_each config up s e g)
    (is_asked_by up) (λ s event es d. takes_once up config s event es d) (none_below config) turns h in
    let none = none_wait config up in let total = all.1 in
    (all.0, omega (arith, none, total))

-- one that waits is counted
pub waits_counted : (up : UpSide) (s : State) (n : ℕ) (p : entries.Entry) → map.get s.pendings.entries n ≡ Some p → same_up p.up up ≡ true
    → 1 ≤ waits_for up s
waits_counted up s n p at same =
    let fewer = tally-remove nat_cmp (λ (p : entries.Entry). same_up p.up up) nat_cmp_total numbers_apart s.pendings.entries n p at in
    let one = ap one_if same in
    omega (arith, fewer, one)
