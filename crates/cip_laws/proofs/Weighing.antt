-- Weights of outputs, and what a turn gives and keeps at most.
use Rattle.std.proofs.Common.{◌≡◌, ℕ, ◌+◌, ◌≤◌, List, [], ◌∷◌, ◌++◌, Some, zero, suc, inl, inr, refl, ap, subst, arith, Bool, true, false}
use Rattle.std.specs.Prelude.{slice_get}
use Rattle.cip_laws.specs.EffectLists.{gain}
use Rattle.cip_config.specs.declared.config.ModuleSettings.{ModuleSettings}
use Rattle.cip_event.specs.declared.event.Event.{Event}
use Rattle.cip_event.specs.declared.event.Output.{Output}
use Rattle.cip_message.specs.Request.{Request}
use Rattle.cip_message.specs.Reply.{reply_bytes}
use Rattle.cip_pending.specs.declared.entry.UpSide.{UpSide}
use Rattle.cip_event.specs.declared.event.Output.TheVariants as outputs
use Rattle.cip_routing.specs.Effects.{Effect, Answers, resets, here_answer, ended_by as told_ended, reply_up, apply, output_of, applied, outputs_of}
use Rattle.cip_routing.specs.Resets.{held_ops, all_ended}
use Rattle.cip_routing.specs.State.{State, initial_state}
use Rattle.cip_routing.specs.Table.{decide}
use Rattle.cip_laws.specs.Histories.{Turn, state_after, IsHistory}
use Rattle.cip_laws.specs.Weights.{weight_in, weight, came}
use Rattle.cip_laws.specs.Turns.{Has, Gave}
use Rattle.cip_laws.proofs.Turns.{Turned, newest}

pub weight_in-append : (w : Output → ℕ) (os ps : List Output) → weight_in w (os ++ ps) ≡ weight_in w os + weight_in w ps
weight_in-append w [] ps = omega arith
weight_in-append w (o ∷ os) ps = let h = weight_in-append w os ps in omega (arith, h)

-- one that is there is weighed
pub weight_has : (w : Output → ℕ) (os : List Output) (o : Output) → Has os o → w o ≤ weight_in w os
weight_has w [] o h = absurd h
weight_has w (x ∷ os) o (inl e) = let same = ap w e in omega (arith, same)
weight_has w (x ∷ os) o (inr h) = let k = weight_has w os o h in omega (arith, k)

pub weight_gave : (w : Output → ℕ) (turns : List Turn) (o : Output) → Gave turns o → w o ≤ weight w turns
weight_gave w [] o h = absurd h
weight_gave w (turn ∷ turns) o (inl h) = let k = weight_has w turn.outputs o h in omega (arith, k)
weight_gave w (turn ∷ turns) o (inr h) = let k = weight_gave w turns o h in omega (arith, k)

pub weight_at : (w : Output → ℕ) (os : List Output) (i : ℕ) (o : Output) → slice_get os i ≡ Some o → w o ≤ weight_in w os
weight_at w [] i o e = absurd (cc)
weight_at w (x ∷ os) zero o e = let same : x ≡ o = cc in let k = ap w same in omega (arith, k)
weight_at w (x ∷ os) (suc i) o e = let k = weight_at w os i o e in omega (arith, k)

-- where there is one at most, it has one place
pub one_place : (w : Output → ℕ) (os : List Output) (i k : ℕ) (o p : Output) → weight_in w os ≤ 1 → 1 ≤ w o → 1 ≤ w p
    → slice_get os i ≡ Some o → slice_get os k ≡ Some p → i ≡ k
one_place w [] i k o p l a b e f = absurd (cc)
one_place w (x ∷ os) zero zero o p l a b e f = refl
one_place w (x ∷ os) zero (suc k) o p l a b e f =
    let same : x ≡ o = cc in let here = ap w same in let there = weight_at w os k p f in absurd (omega (arith, here, there))
one_place w (x ∷ os) (suc i) zero o p l a b e f =
    let same : x ≡ p = cc in let here = ap w same in let there = weight_at w os i o e in absurd (omega (arith, here, there))
one_place w (x ∷ os) (suc i) (suc k) o p l a b e f = ap suc (one_place w os i k o p (omega arith) a b e f)

-- Of a weight that no end of an op has, an answer here weighs what its reply weighs.
module _ (w : Output → ℕ) (none : (op : ℕ) → w (outputs.Ended op) ≡ 0) where
  none_told : (ops : List ℕ) → weight_in w (all_ended ops) ≡ 0
  none_told [] = refl
  none_told (op ∷ ops) = let here = none op in let there = none_told ops in omega (arith, here, there)

  pub none_reset : (b : Bool) (s : State) → weight_in w (told_ended b s) ≡ 0
  none_reset true s = none_told (held_ops s)
  none_reset false s = refl

  pub answered_alone : (config : ModuleSettings) (s : State) (v : UpSide) (asked : Request)
      → weight_in w (output_of config s (Answers v asked)) ≡ w (reply_up v (reply_bytes (here_answer config s asked)))
  answered_alone config s v asked = let no = none_reset (resets config s asked) s in omega (arith, no)

-- Where what each effect gives, and what is kept after it, is at most what was kept and what it gains, so it is of a turn.
module _ (config : ModuleSettings) (w : Output → ℕ) (kept : State → ℕ) (d : Effect → ℕ) (Good : State → Type 0)
    (good : (s : State) (e : Effect) → Good s → Good (apply config s e))
    (each : (s : State) (e : Effect) → Good s → weight_in w (output_of config s e) + kept (apply config s e) ≤ kept s + d e) where
  pub good_effects : (s : State) (es : List Effect) → Good s → Good (applied config s es)
  good_effects s [] h = h
  good_effects s (e ∷ es) h = good_effects (apply config s e) es (good s e h)

  pub conserved : (s : State) (es : List Effect) → Good s → weight_in w (outputs_of config s es) + kept (applied config s es) ≤ kept s + gain d es
  conserved s [] h = omega arith
  conserved s (e ∷ es) h =
      let join = weight_in-append w (output_of config s e) (outputs_of config (apply config s e) es) in
      let here = each s e h in
      let there = conserved (apply config s e) es (good s e h) in
      omega (arith, join, here, there)

  -- what came bounds what is gained, so it bounds what a whole history gave and keeps
  pub history_conserved : (most : Event → ℕ) → ((s : State) (event : Event) (es : List Effect) → decide config s event ≡ Some es → gain d es ≤ most event)
      → Good (initial_state config) → (turns : List Turn) → IsHistory config turns
      → Good (state_after config turns) × (weight w turns + kept (state_after config turns) ≤ kept (initial_state config) + came most turns)
  history_conserved most bound first [] h = (first, omega arith)
  history_conserved most bound first (turn ∷ turns) h =
      let before = history_conserved most bound first turns h.0 in
      let now : Turned config (state_after config turns) turn.event (state_after config (turn ∷ turns)) turn.outputs = newest config turn turns h in
      let still : Good (state_after config (turn ∷ turns)) = subst Good now.state (good_effects (state_after config turns) now.effects before.0) in
      let sum = conserved (state_after config turns) now.effects before.0 in
      let given : weight_in w (outputs_of config (state_after config turns) now.effects) ≡ weight_in w turn.outputs = ap (weight_in w) now.out in
      let left : kept (applied config (state_after config turns) now.effects) ≡ kept (state_after config (turn ∷ turns)) = ap kept now.state in
      let most_now = bound (state_after config turns) turn.event now.effects now.decided in
      let earlier = before.1 in
      (still, omega (arith, sum, given, left, most_now, earlier))
