-- Each connection stands under its own triad.
use Rattle.std.proofs.Common.{◌≡◌, List, [], ◌∷◌, Some, None, sym, ap, ◌∙◌}
use Rattle.std.specs.FinMap as map
use Rattle.cip_base.specs.declared.triad.Triad.{Triad}
use Rattle.cip_base.specs.Triads.{triad_cmp}
use Rattle.cip_hops.specs.declared.opening.Opening.{Opening}
use Rattle.cip_hops.specs.declared.hop.Held.{Held}
use Rattle.cip_hops.specs.declared.hop.Held.TheVariants.{Opening as IsOpening}
use Rattle.cip_hops.specs.Hops.{triad_of}
use Rattle.cip_config.specs.declared.config.ModuleSettings.{ModuleSettings}
use Rattle.cip_routing.specs.Effects.{Effect}
use Rattle.cip_routing.specs.State.{State}
use Rattle.cip_laws.specs.Histories.{Turn, state_after, IsHistory}
use Rattle.cip_laws.proofs.Stands.{same_opening, HeldCase, Stands, Begun, Ended, Finished, held_cases}
use Rattle.cip_laws.proofs.Turns.{by_turn, newest}
pub use Rattle.cip_laws.specs.OwnTriads.{HasOwnTriads}

by_case : (s : State) (e : Effect) (q : Triad) (x : Held) → HasOwnTriads s → HeldCase s e q x → triad_of x ≡ q
by_case s e q x h (Stands stood) = ap (λ (o : Opening). o.triad) (sym (same_opening stood.old x stood.core)) ∙ h q stood.old stood.at
by_case s e q x h (Begun sending o effect_is triad_is held_is) = ap triad_of held_is ∙ sym triad_is
by_case s e q x h (Ended o request link effect_is triad_is held_is) = ap triad_of held_is ∙ sym triad_is
by_case s e q x h (Finished by) = ap triad_of by.is ∙ h q (IsOpening by.opening by.ids) by.was

pub own_triads : (config : ModuleSettings) (turns : List Turn) → IsHistory config turns → HasOwnTriads (state_after config turns)
own_triads config [] h = λ q x at. let none : None ≡ Some x = sym (map.get-empty {X = Held} triad_cmp q) ∙ at in absurd (cc)
own_triads config (turn ∷ turns) h =
    by_turn config (state_after config turns) turn.event (λ s outs. HasOwnTriads s)
    (λ s outs e tells old q x at. by_case s e q x old (held_cases config s e q x at))
    (state_after config (turn ∷ turns)) turn.outputs (newest config turn turns h) (own_triads config turns h.0)
