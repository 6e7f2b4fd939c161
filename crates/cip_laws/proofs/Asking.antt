-- Where each request that waits comes from: a turn in which it was asked, and in which it was sent.
use Rattle.std.proofs.Common.{◌≡◌, ℕ, List, [], ◌∷◌, ◌++◌, Some, None, refl, sym, ap, subst, ◌∙◌, ◌⊎◌, inl, inr}
use Rattle.std.specs.FinMap as map
use Rattle.std.specs.Ordering.{nat_cmp}
use Rattle.cip_pending.specs.declared.entry.Entry.{Entry}
use Rattle.cip_config.specs.declared.config.ModuleSettings.{ModuleSettings}
use Rattle.cip_event.specs.declared.event.Body.TheVariants as bodies
use Rattle.cip_event.specs.declared.event.Event.{Event}
use Rattle.cip_event.specs.declared.event.Output.{Output}
use Rattle.cip_event.specs.declared.event.Output.TheVariants as outputs
use Rattle.cip_routing.specs.Effects.{Effect, Forwards, Begins, entry_for, kind_for, apply, output_of}
use Rattle.cip_routing.specs.State.{State}
use Rattle.cip_laws.specs.Tells.{asker, Tells}
use Rattle.cip_laws.proofs.TellsAskers.{forwards_asker, begins_asker}
use Rattle.cip_laws.specs.Histories.{Turn, state_after, IsHistory}
use Rattle.cip_laws.specs.Turns.{Has, SomeTurn, AskedIn}
use Rattle.cip_laws.proofs.Puts.{puts, pending_cases}
use Rattle.cip_laws.proofs.Turns.{by_turn, newest}

pub has_left : (xs ys : List Output) (o : Output) → Has xs o → Has (xs ++ ys) o
has_left [] ys o h = absurd h
has_left (x ∷ xs) ys o (inl h) = inl h
has_left (x ∷ xs) ys o (inr h) = inr (has_left xs ys o h)

pub has_right : (xs ys : List Output) (o : Output) → Has ys o → Has (xs ++ ys) o
has_right [] ys o h = h
has_right (x ∷ xs) ys o h = inr (has_right xs ys o h)

-- what an effect puts among the requests that wait, it sends
record PutSent (config : ModuleSettings) (event : Event) (s : State) (e : Effect) (p : Entry) : Type 0 where
  bytes : List ℕ
  asks : asker event ≡ Some p.up
  sent : output_of config s e ≡ outputs.Send p.port p.address (bodies.Request s.pendings.next bytes) ∷ []

put_sent : (config : ModuleSettings) (s0 s : State) (event : Event) (e : Effect) (p : Entry) → Tells config s0 event e → puts s e ≡ Some p
    → PutSent config event s e p
put_sent config s0 s event (Forwards sending kind) p tells h =
    let same : entry_for s sending kind ≡ p = cc in
    subst (PutSent config event s (Forwards sending kind)) same
    (record { bytes = sending.bytes; asks = forwards_asker config s0 event sending kind tells; sent = refl })
put_sent config s0 s event (Begins sending opening) p tells h =
    let same : entry_for s sending (kind_for opening) ≡ p = cc in
    subst (PutSent config event s (Begins sending opening)) same
    (record { bytes = sending.bytes; asks = begins_asker config s0 event sending opening tells; sent = refl })
put_sent config s0 s event e p tells h = absurd (cc)

-- ---- one turn

-- the request that waits is an old one, or was asked and sent just now
abbrev Stems : (ℕ → Entry → Type 0) → Event → State → List Output → Type 0
Stems Old event s outs = (n : ℕ) (p : Entry) → map.get s.pendings.entries n ≡ Some p → Old n p ⊎ AskedIn (record { event = event; outputs = outs }) n p

module _ (Old : ℕ → Entry → Type 0) (config : ModuleSettings) (s0 : State) (event : Event) where
  more : (n : ℕ) (p : Entry) (outs rest : List Output) → Old n p ⊎ AskedIn (record { event = event; outputs = outs }) n p
      → Old n p ⊎ AskedIn (record { event = event; outputs = outs ++ rest }) n p
  more n p outs rest (inl h) = inl h
  more n p outs rest (inr h) = inr (record { bytes = h.bytes; asks = h.asks; sent = has_left outs rest _ h.sent })

  stems_each : (s : State) (outs : List Output) (e : Effect) → Tells config s0 event e → Stems Old event s outs
      → Stems Old event (apply config s e) (outs ++ output_of config s e)
  stems_each s outs e tells h n p at =
      elim (pending_cases config s e n p at) [
        | inl old ↦ more n p outs (output_of config s e) (h n p old)
        | inr new ↦
            let put : PutSent config event s e p = put_sent config s0 s event e p tells new.1 in
            let sent : Has (output_of config s e) (outputs.Send p.port p.address (bodies.Request n put.bytes)) =
            subst (λ (os : List Output). Has os (outputs.Send p.port p.address (bodies.Request n put.bytes))) (sym put.sent)
            (inl (ap (λ (k : ℕ). outputs.Send p.port p.address (bodies.Request k put.bytes)) (sym new.0))) in
            inr (record { bytes = put.bytes; asks = put.asks; sent = has_right outs (output_of config s e) _ sent })
      ]

-- ---- a history

pub stems : (config : ModuleSettings) (turns : List Turn) → IsHistory config turns → (n : ℕ) (p : Entry)
    → map.get (state_after config turns).pendings.entries n ≡ Some p
    → SomeTurn (λ turn. AskedIn turn n p) turns
stems config [] h n p at = let none : None ≡ Some p = sym (map.get-empty {X = Entry} nat_cmp n) ∙ at in absurd (cc)
stems config (turn ∷ turns) h n p at =
    let Old : ℕ → Entry → Type 0 = λ n p. SomeTurn (λ turn. AskedIn turn n p) turns in
    let all : Stems Old turn.event (state_after config (turn ∷ turns)) turn.outputs =
    by_turn config (state_after config turns) turn.event (Stems Old turn.event) (stems_each Old config (state_after config turns) turn.event)
    (state_after config (turn ∷ turns)) turn.outputs (newest config turn turns h) (λ n p at. inl (stems config turns h.0 n p at)) in
    elim (all n p at) [ inl old ↦ inr old | inr now ↦ inl now ]
