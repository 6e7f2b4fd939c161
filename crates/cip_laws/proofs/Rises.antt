-- What is held has a number or an id below the next, and the next never falls.
use Rattle.std.proofs.Common.{◌≡◌, ℕ, ◌+◌, ◌≤◌, List, [], ◌∷◌, ap, arith, Bool, true, false, refl}
use Rattle.cip_config.specs.declared.config.ModuleSettings.{ModuleSettings}
use Rattle.cip_routing.specs.Effects.{Effect, apply, applied, Answers, resets, answered_state}
use Rattle.cip_routing.specs.State.{State}
use Rattle.cip_laws.specs.Histories.{Turn, state_after, IsHistory}
use Rattle.cip_laws.proofs.Puts.{numbers_drawn, next_number, drawn_ids, next_id}
use Rattle.cip_laws.proofs.Turns.{newest}
use Rattle.cip_message.specs.Request.{Request}

-- what effects in turn draw, each in the state where it is applied
abbrev pub drawn_from : ModuleSettings → (ModuleSettings → State → Effect → ℕ) → State → List Effect → ℕ
drawn_from config d s [] = 0
drawn_from config d s (e ∷ es) = d config s e + drawn_from config d (apply config s e) es

pub numbers_after : (config : ModuleSettings) (s : State) (es : List Effect)
    → (applied config s es).pendings.next ≡ s.pendings.next + drawn_from config numbers_drawn s es
numbers_after config s [] = omega arith
numbers_after config s (e ∷ es) = let here = next_number config s e in let there = numbers_after config (apply config s e) es in omega (arith, here, there)

pub ids_after : (config : ModuleSettings) (s : State) (es : List Effect) → (applied config s es).hops.next ≡ s.hops.next + drawn_from config drawn_ids s es
ids_after config s [] = omega arith
ids_after config s (e ∷ es) = let here = next_id config s e in let there = ids_after config (apply config s e) es in omega (arith, here, there)

pub numbers_rise : (config : ModuleSettings) (turn : Turn) (turns : List Turn) → IsHistory config (turn ∷ turns)
    → (state_after config turns).pendings.next ≤ (state_after config (turn ∷ turns)).pendings.next
numbers_rise config turn turns h =
    let now = newest config turn turns h in
    let next = numbers_after config (state_after config turns) now.effects in
    let same = ap (λ (s : State). s.pendings.next) now.state in
    omega (arith, next, same)

pub ids_rise : (config : ModuleSettings) (turn : Turn) (turns : List Turn) → IsHistory config (turn ∷ turns)
    → (state_after config turns).hops.next ≤ (state_after config (turn ∷ turns)).hops.next
ids_rise config turn turns h =
    let now = newest config turn turns h in
    let next = ids_after config (state_after config turns) now.effects in
    let same = ap (λ (s : State). s.hops.next) now.state in
    omega (arith, next, same)

-- ---- the clock

time_after_answer : (config : ModuleSettings) (s : State) (asked : Request) (b : Bool) → (answered_state b config s asked).now ≡ s.now
time_after_answer config s asked true = refl
time_after_answer config s asked false = refl

time_after : (config : ModuleSettings) (s : State) (e : Effect) → s.now ≤ (apply config s e).now
time_after config s (Answers up asked) = let same = time_after_answer config s asked (resets config s asked) in omega (arith, same)
time_after config s e = omega arith

time_after_all : (config : ModuleSettings) (s : State) (es : List Effect) → s.now ≤ (applied config s es).now
time_after_all config s [] = omega arith
time_after_all config s (e ∷ es) =
    let here = time_after config s e in let there = time_after_all config (apply config s e) es in omega (arith, here, there)

pub time_rises : (config : ModuleSettings) (turn : Turn) (turns : List Turn) → IsHistory config (turn ∷ turns)
    → (state_after config turns).now ≤ (state_after config (turn ∷ turns)).now
time_rises config turn turns h =
    let now = newest config turn turns h in
    let next = time_after_all config (state_after config turns) now.effects in
    let same = ap (λ (s : State). s.now) now.state in
    omega (arith, next, same)
