-- Where each request that waits was put: the effect of a turn that sent it, and what that tells.
use Rattle.std.proofs.Common.{◌≡◌, ℕ, List, [], ◌∷◌, ◌++◌, Some, None, refl, sym, ap, subst, ◌∙◌, ◌⊎◌, inl, inr}
use Rattle.std.specs.FinMap as map
use Rattle.std.specs.Ordering.{nat_cmp}
use Rattle.cip_pending.specs.declared.entry.Entry.{Entry}
use Rattle.cip_pending.specs.declared.entry.Kind.{Kind}
use Rattle.cip_hops.specs.declared.opening.Opening.{Opening}
use Rattle.cip_config.specs.declared.config.ModuleSettings.{ModuleSettings}
use Rattle.cip_event.specs.declared.event.Body.TheVariants as bodies
use Rattle.cip_event.specs.declared.event.Event.{Event}
use Rattle.cip_event.specs.declared.event.Output.{Output}
use Rattle.cip_event.specs.declared.event.Output.TheVariants as outputs
use Rattle.cip_laws.specs.Births.{Past}
use Rattle.cip_routing.specs.Effects.{Sending, Effect, Forwards, Begins, entry_for, kind_for, apply, output_of, request_below}
use Rattle.cip_laws.specs.Histories.{Turn, state_after, IsHistory}
use Rattle.cip_routing.specs.State.{State}
use Rattle.cip_laws.specs.Tells.{asker, Tells, ForwardsAs, BeginsAs}
use Rattle.cip_laws.specs.Turns.{Has}
use Rattle.cip_laws.proofs.Asking.{has_left, has_right}
use Rattle.cip_laws.proofs.Puts.{puts, pending_cases}
use Rattle.cip_laws.proofs.TellsAskers.{forwards_asker, begins_asker}
use Rattle.cip_laws.proofs.Turns.{by_turn, newest}

-- what was sent on, and why
pub data SentFor (config : ModuleSettings) (s : State) (event : Event) (sending : Sending) (kind : Kind) : Type 0 where
  Forwarded : ForwardsAs config s event sending kind → SentFor config s event sending kind
  Begun : (o : Opening) → kind ≡ kind_for o → BeginsAs config s event sending o → SentFor config s event sending kind

-- the turn put the request n, which waits as p, and sent it
pub record PutIn (config : ModuleSettings) (n : ℕ) (p : Entry) (before : List Turn) (turn : Turn) : Type 0 where
  pub sending : Sending
  pub why : SentFor config (state_after config before) turn.event sending p.kind
  pub sent : Has turn.outputs (outputs.Send sending.port sending.address (bodies.Request n sending.bytes))
  pub up_is : p.up ≡ sending.up
  pub port_is : p.port ≡ sending.port
  pub address_is : p.address ≡ sending.address
  pub words_is : p.words ≡ sending.words

pub sent_asker : (config : ModuleSettings) (s : State) (event : Event) (sending : Sending) (kind : Kind) → SentFor config s event sending kind
    → asker event ≡ Some sending.up
sent_asker config s event sending kind (Forwarded h) = forwards_asker config s event sending kind h
sent_asker config s event sending kind (Begun o is h) = begins_asker config s event sending o h

-- ---- one effect

-- the same of one effect, which sends it last
record PutSent (config : ModuleSettings) (s0 : State) (event : Event) (s : State) (e : Effect) (p : Entry) : Type 0 where
  sending : Sending
  why : SentFor config s0 event sending p.kind
  sent : output_of config s e ≡ request_below s sending ∷ []
  up_is : p.up ≡ sending.up
  port_is : p.port ≡ sending.port
  address_is : p.address ≡ sending.address
  words_is : p.words ≡ sending.words

put_sent : (config : ModuleSettings) (s0 s : State) (event : Event) (e : Effect) (p : Entry) → Tells config s0 event e → puts s e ≡ Some p
    → PutSent config s0 event s e p
put_sent config s0 s event (Forwards sending kind) p tells h =
    let same : entry_for s sending kind ≡ p = cc in
    subst (PutSent config s0 event s (Forwards sending kind)) same
    (record { sending = sending; why = Forwarded tells; sent = refl; up_is = refl; port_is = refl; address_is = refl; words_is = refl })
put_sent config s0 s event (Begins sending o) p tells h =
    let same : entry_for s sending (kind_for o) ≡ p = cc in
    subst (PutSent config s0 event s (Begins sending o)) same
    (record { sending = sending; why = Begun o refl tells; sent = refl; up_is = refl; port_is = refl; address_is = refl; words_is = refl })
put_sent config s0 s event e p tells h = absurd (cc)

-- ---- a turn

module _ (config : ModuleSettings) (turns : List Turn) (event : Event) where
  abbrev turn_with : List Output → Turn
  turn_with outs = record { event = event; outputs = outs }

  -- put in this turn, or before
  abbrev Put : State → List Output → Type 0
  Put s outs = (n : ℕ) (p : Entry) → map.get s.pendings.entries n ≡ Some p → PutIn config n p turns (turn_with outs) ⊎ Past (PutIn config n p) turns

  more : (n : ℕ) (p : Entry) (outs rest : List Output) → PutIn config n p turns (turn_with outs) ⊎ Past (PutIn config n p) turns
      → PutIn config n p turns (turn_with (outs ++ rest)) ⊎ Past (PutIn config n p) turns
  more n p outs rest (inr h) = inr h
  more n p outs rest (inl h) = inl (record {
    sending = h.sending;
    why = h.why;
    sent = has_left outs rest _ h.sent;
    up_is = h.up_is;
    port_is = h.port_is;
    address_is = h.address_is;
    words_is = h.words_is;
  })

  put_each : (s : State) (outs : List Output) (e : Effect) → Tells config (state_after config turns) event e → Put s outs
      → Put (apply config s e) (outs ++ output_of config s e)
  put_each s outs e tells h n p at =
      elim (pending_cases config s e n p at) [
        | inl old ↦ more n p outs (output_of config s e) (h n p old)
        | inr new ↦
            let put : PutSent config (state_after config turns) event s e p = put_sent config (state_after config turns) s event e p tells new.1 in
            let sent : Has (output_of config s e) (outputs.Send put.sending.port put.sending.address (bodies.Request n put.sending.bytes)) =
            subst (λ (os : List Output). Has os (outputs.Send put.sending.port put.sending.address (bodies.Request n put.sending.bytes))) (sym put.sent)
            (inl (ap (λ (k : ℕ). outputs.Send put.sending.port put.sending.address (bodies.Request k put.sending.bytes)) (sym new.0))) in
            inl (record {
              sending = put.sending;
              why = put.why;
              sent = has_right outs (output_of config s e) _ sent;
              up_is = put.up_is;
              port_is = put.port_is;
              address_is = put.address_is;
              words_is = put.words_is;
            })
      ]

-- ---- a history

pub put_in : (config : ModuleSettings) (turns : List Turn) → IsHistory config turns → (n : ℕ) (p : Entry)
    → map.get (state_after config turns).pendings.entries n ≡ Some p
    → Past (PutIn config n p) turns
put_in config [] h n p at = let none : None ≡ Some p = sym (map.get-empty {X = Entry} nat_cmp n) ∙ at in absurd (cc)
put_in config (turn ∷ turns) h n p at =
    by_turn config (state_after config turns) turn.event (Put config turns turn.event) (put_each config turns turn.event)
    (state_after config (turn ∷ turns)) turn.outputs (newest config turn turns h) (λ n p at. inr (put_in config turns h.0 n p at)) n p at
