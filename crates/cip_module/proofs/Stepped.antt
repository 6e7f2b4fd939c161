-- A reaction to a message is a step of the routing table, once the bytes that stay where they are stand in its output.
use Rattle.std.proofs.Common.{◌≡◌, ℕ, List, [], ◌∷◌, refl, Some, Result, Ok, Err, IfOk}
use Rattle.cip_event.specs.declared.event.Event.{Event}
use Rattle.cip_event.specs.Filled.{filled}
use Rattle.cip_routing.specs.Effects.{Effect}
use Rattle.cip_routing.specs.Steps.{IsStep}
use Rattle.cip_routing.specs.Table.{decide}
use Rattle.cip_steps.proofs.InPlace.{is_step}
use Rattle.cip_steps.specs.Code.Device.{state_of_device}
use Rattle.cip_steps.specs.Code.Reacts.{Reacts}
use Rattle.cip_steps.specs.Reactions.{PutsOut}
use Rattle.cip_steps.specs.declared.device.Device.{Device}
use Rattle.cip_steps.specs.declared.making.Making.TheVariants.{Edited}
use Rattle.cip_steps.specs.declared.reaction.Reaction.{Reaction}
use Rattle.cip_steps.specs.declared.reaction.Reaction.TheVariants as reactions

module _ {E : Type 0} (old new : Device) (came : List ℕ) (es : List Effect) (event : Event)
    (decides : decide old.config (state_of_device old) event ≡ Some es) where
  pub stepped_on : (r : Result Reaction E) → Reacts Edited (λ b. b ≡ came) old new es r
      → IfOk r (λ reaction. PutsOut came reaction (λ outputs. IsStep old.config (state_of_device old) event (state_of_device new) outputs))
  stepped_on (Ok (reactions.Whole o)) reacts =
      is_step old.config (state_of_device old) (state_of_device new) event es (o ∷ []) decides reacts.does
  stepped_on (Ok (reactions.Edited o edit)) reacts =
      let g = reacts.1 came refl in
      (g.0, g.1, is_step old.config (state_of_device old) (state_of_device new) event es (filled o g.0 ∷ []) decides g.2.does)
  stepped_on (Ok (reactions.Several all)) reacts =
      is_step old.config (state_of_device old) (state_of_device new) event es all.items decides reacts.does
  stepped_on (Err fault) reacts = tt

  pub kept_on : (r : Result Reaction E) → Reacts Edited (λ b. b ≡ came) old new es r → new.config ≡ old.config
  kept_on (Ok (reactions.Whole o)) reacts = reacts.same_config
  kept_on (Ok (reactions.Edited o edit)) reacts = (reacts.1 came refl).2.same_config
  kept_on (Ok (reactions.Several all)) reacts = reacts.same_config
  kept_on (Err fault) reacts = reacts.same_config
