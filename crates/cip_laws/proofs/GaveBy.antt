-- Which effect of a turn gave an output, and the ways to a reply by a link.
use Rattle.std.proofs.Common.{◌≡◌, ℕ, List, [], ◌∷◌, ◌++◌, Some, refl, sym, subst, ◌∙◌, ◌⊎◌, inl, inr, append_assoc}
use Rattle.cip_pending.specs.declared.entry.UpSide.TheVariants.{Link}
use Rattle.cip_config.specs.declared.config.ModuleSettings.{ModuleSettings}
use Rattle.cip_event.specs.declared.event.Body.TheVariants as bodies
use Rattle.cip_event.specs.declared.event.Event.{Event}
use Rattle.cip_event.specs.declared.event.Output.{Output}
use Rattle.cip_event.specs.declared.event.Output.TheVariants as outputs
use Rattle.cip_routing.specs.Effects.{Effect, apply, output_of, applied, outputs_of}
use Rattle.cip_routing.specs.State.{State}
use Rattle.cip_routing.specs.Table.{decide}
use Rattle.cip_laws.specs.Tells.{Tells, AllTell}
use Rattle.cip_laws.specs.Turns.{Has}
use Rattle.cip_laws.proofs.GivenBy.{answered_by}
use Rattle.cip_laws.proofs.Tells.{decide_tells}
use Rattle.cip_laws.proofs.Turns.{Turned, applied-append}
pub use Rattle.cip_laws.specs.Outputs.{GaveBy, RepliesBy, AtOnce, Here, Opened, Taken, Late}

-- ---- which effect gave an output

has_append : (xs ys : List Output) (o : Output) → Has (xs ++ ys) o → Has xs o ⊎ Has ys o
has_append [] ys o h = inr h
has_append (x ∷ xs) ys o (inl h) = inl (inl h)
has_append (x ∷ xs) ys o (inr h) = elim (has_append xs ys o h) [ inl p ↦ inl (inr p) | inr p ↦ inr p ]

gave_from : (config : ModuleSettings) (s0 : State) (event : Event) (all : List Effect) (x : Output) (before es : List Effect) → (before ++ es ≡ all)
    → AllTell config s0 event es
    → Has (outputs_of config (applied config s0 before) es) x → GaveBy config s0 event all x
gave_from config s0 event all x before [] is tells h = absurd h
gave_from config s0 event all x before (e ∷ es) is tells h =
    elim (has_append (output_of config (applied config s0 before) e) (outputs_of config (apply config (applied config s0 before) e) es) x h) [
      | inl here ↦ record { before = before; after = es; effect = e; is = is; tells = tells.0; gives = here }
      | inr there ↦
          gave_from config s0 event all x (before ++ (e ∷ [])) es (append_assoc before (e ∷ []) es ∙ is) tells.1
          (subst (λ (s : State). Has (outputs_of config s es) x) (sym (applied-append config s0 before (e ∷ []))) there)
    ]

pub gave_by : (config : ModuleSettings) (s0 : State) (event : Event) (new : State) (outs : List Output) (x : Output) (turn : Turned config s0 event new outs)
    → Has outs x → GaveBy config s0 event turn.effects x
gave_by config s0 event new outs x turn h = gave_from config s0 event turn.effects x [] turn.effects refl turn.tells
    (subst (λ (os : List Output). Has os x) (sym turn.out) h)

-- the same where the effects were decided
pub gave_then : (config : ModuleSettings) (s : State) (event : Event) (es : List Effect) (x : Output) → decide config s event ≡ Some es
    → Has (outputs_of config s es) x → GaveBy config s event es x
gave_then config s event es x d h = gave_from config s event es x [] es refl (decide_tells config s event es d) h

-- a reply by a link
pub reply_by : (port n : ℕ) (from bytes : List ℕ) (config : ModuleSettings) (s0 : State) (event : Event) (mid : State) (e : Effect) → Tells config s0 event e
    → Has (output_of config mid e) (outputs.Send port from (bodies.Reply n bytes)) → RepliesBy config s0 event mid e (Link port from n) bytes
reply_by port n from bytes = answered_by (Link port from n) bytes
