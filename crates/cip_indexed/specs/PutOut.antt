-- What a reaction to these bytes puts out.
use Rattle.std.specs.Prelude.{◌≡◌, List, [], ◌∷◌}
use Rattle.cip_base.specs.Words.{Octets}
use Rattle.cip_event.specs.declared.event.Output.{Output}
use Rattle.cip_steps.specs.declared.reaction.Reaction.{Reaction}
use Rattle.cip_steps.specs.declared.reaction.Reaction.TheVariants as reactions
use Rattle.cip_event.specs.Filled.{filled}
use Rattle.cip_steps.specs.Reactions.{Becomes}

-- an edit is one that these bytes can have
abbrev pub CanPutOut : Octets → Reaction → Type 0
CanPutOut came (reactions.Whole output) = Unit {0}
CanPutOut came (reactions.Edited output edit) = (b : Octets) × Becomes came edit b
CanPutOut came (reactions.Several all) = Unit {0}

abbrev pub IsPutOut : Octets → Reaction → List Output → Type 0
IsPutOut came (reactions.Whole whole) outputs = outputs ≡ whole ∷ []
IsPutOut came (reactions.Edited lacking edit) outputs =
    (b : Octets) × Becomes came edit b × (outputs ≡ filled lacking b ∷ [])
IsPutOut came (reactions.Several all) outputs = outputs ≡ all.items
