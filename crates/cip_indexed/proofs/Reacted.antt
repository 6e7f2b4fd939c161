-- What a reaction puts out is what the routing table puts out.
use Rattle.std.proofs.Common.{◌≡◌, List, ℕ, [], ◌∷◌, refl, sym, subst}
use Rattle.cip_event.specs.declared.event.Output.{Output}
use Rattle.cip_steps.specs.declared.reaction.Reaction.{Reaction}
use Rattle.cip_steps.specs.declared.reaction.Reaction.TheVariants.{Whole, Edited, Several}
use Rattle.cip_event.specs.Filled.{filled}
use Rattle.cip_steps.specs.Reactions.{PutsOut}
use Rattle.cip_indexed.specs.PutOut.{IsPutOut}

pub put : (came : List ℕ) (reaction : Reaction) (P : List Output → Type 0) (out : List Output) → PutsOut came reaction P
    → ((list : List Output) → IsPutOut came reaction list → out ≡ list) → P out
put came (Whole output) P out holds is = subst P (sym (is (output ∷ []) refl)) holds
put came (Edited output edit) P out (b, becomes, holds) is = subst P (sym (is (filled output b ∷ []) (b, becomes, refl))) holds
put came (Several all) P out holds is = subst P (sym (is all.items refl)) holds
