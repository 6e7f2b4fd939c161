-- How a connection was born: by a request that goes on, or one that ends here.
use Rattle.std.proofs.Common.{◌≡◌, List, [], ◌∷◌, Option, Some, None, refl, sym, ap, subst, ◌∙◌, inl, inr}
use Rattle.std.specs.FinMap as map
use Rattle.std.specs.Prelude.{option_and_then}
use Rattle.cip_base.specs.declared.triad.Triad.{Triad}
use Rattle.cip_open.specs.Open.{Open as OpenRequest}
use Rattle.cip_hops.specs.declared.opening.Opening.{Opening}
use Rattle.cip_hops.specs.declared.opening.OwnIds.{OwnIds}
use Rattle.cip_hops.specs.declared.hop.Held.{Held}
use Rattle.cip_hops.specs.Hops.{opening_of, ids_of}
use Rattle.cip_target.specs.declared.link.EndLink.{EndLink}
use Rattle.cip_config.specs.declared.config.ModuleSettings.{ModuleSettings}
use Rattle.cip_event.specs.declared.event.Event.{Event}
use Rattle.cip_laws.specs.Births.{opened_by, or_else, first_opened, Past, IsBirth}
use Rattle.cip_routing.specs.Effects.{Effect, Sending, Begins, Accepts}
use Rattle.cip_laws.specs.Histories.{Turn, state_after, IsHistory}
use Rattle.cip_routing.specs.State.{State}
use Rattle.cip_laws.specs.Tells.{Tells, AllTell, BeginsAs, AcceptsAs}
use Rattle.cip_laws.proofs.Births.{held_born}
use Rattle.cip_laws.proofs.Turns.{newest}

-- an event that it was born by
pub data BornAs (config : ModuleSettings) (s : State) (event : Event) (o : Opening) : Type 0 where
  GoesOn : (sending : Sending) → BeginsAs config s event sending o → BornAs config s event o
  EndsHere : (request : OpenRequest) (link : EndLink) → AcceptsAs config s event o request link → BornAs config s event o

opened_as : (config : ModuleSettings) (s : State) (event : Event) (e : Effect) (o : Opening) → opened_by e ≡ Some o → Tells config s event e
    → BornAs config s event o
opened_as config s event (Begins sending opening) o h tells =
    let same : opening ≡ o = cc in GoesOn sending (subst (λ (x : Opening). BeginsAs config s event sending x) same tells)
opened_as config s event (Accepts opening request link) o h tells =
    let same : opening ≡ o = cc in EndsHere request link (subst (λ (x : Opening). AcceptsAs config s event x request link) same tells)
opened_as config s event e o h tells = absurd (cc)

first_as : (config : ModuleSettings) (s : State) (event : Event) (es : List Effect) (o : Opening) → first_opened es ≡ Some o → AllTell config s event es
    → BornAs config s event o
first_as config s event [] o h tells = absurd (cc)
first_as config s event (e ∷ es) o h tells =
    elim (opened_by e) as (λ (x : Option Opening). opened_by e ≡ x → or_else x (first_opened es) ≡ Some o → BornAs config s event o) [
      | None ↦ λ t r. first_as config s event es o r tells.1
      | Some p ↦ λ t r. opened_as config s event e o (t ∙ r) tells.0
    ] refl h

-- a turn in which it was born
pub record Birth (config : ModuleSettings) (o : Opening) (ids : OwnIds) (before : List Turn) (turn : Turn) : Type 0 where
  pub history : IsHistory config (turn ∷ before)
  pub birth : IsBirth config o ids before turn
  pub as_ : BornAs config (state_after config before) turn.event o

pub born_as : (config : ModuleSettings) (o : Opening) (ids : OwnIds) (turns : List Turn) → IsHistory config turns → Past (IsBirth config o ids) turns
    → Past (Birth config o ids) turns
born_as config o ids [] h past = absurd past
born_as config o ids (turn ∷ turns) h (inl b) =
    let now = newest config turn turns h in
    inl (record {
      history = h;
      birth = b;
      as_ = first_as config (state_after config turns) turn.event now.effects o (sym (ap (option_and_then first_opened) now.decided) ∙ b.is) now.tells;
    })
born_as config o ids (turn ∷ turns) h (inr old) = inr (born_as config o ids turns h.0 old)

-- whatever is held was born so
pub held_as : (config : ModuleSettings) (turns : List Turn) → IsHistory config turns → (q : Triad) (x : Held)
    → map.get (state_after config turns).hops.held q ≡ Some x
    → Past (Birth config (opening_of x) (ids_of x)) turns
held_as config turns h q x at = born_as config (opening_of x) (ids_of x) turns h (held_born config turns h q x at)
