-- An op gets one Done at most, and none while something waits for it.
use Rattle.std.proofs.Common.{◌≡◌, ℕ, ◌+◌, ◌≤◌, Bool, true, false, not, List, [], ◌∷◌, Option, Some, None, refl, sym, ap, subst, ◌∙◌, arith, eqb}
use Rattle.std.proofs.lemmas.Bool.{eqb-true}
use Rattle.cip_hops.specs.declared.hop.Hop.{Hop}
use Rattle.cip_hops.specs.Hops.{hop_by_op}
use Rattle.cip_base.specs.declared.timing.Timing.{Timing}
use Rattle.cip_pending.specs.declared.entry.UpSide.TheVariants.{Local}
use Rattle.cip_laws.specs.EffectLists.{gain, takes_up}
use Rattle.cip_config.specs.declared.config.ModuleSettings.{ModuleSettings}
use Rattle.cip_event.specs.declared.event.Body.TheVariants as bodies
use Rattle.cip_event.specs.declared.event.Command.TheVariants as commands
use Rattle.cip_event.specs.declared.event.Event.{Event}
use Rattle.cip_event.specs.declared.event.Event.TheVariants as events
use Rattle.cip_routing.specs.CommandRows.{CommandRow}
use Rattle.cip_routing.specs.CommandRows as command
use Rattle.cip_routing.specs.CommandRows.{op_row, close_command_row, send_row}
use Rattle.cip_routing.specs.Effects.{Effect, Spends, apply, applied, outputs_of, Answers, resets}
use Rattle.cip_routing.specs.State.{State, is_spent, spent_with, initial_state}
use Rattle.cip_routing.specs.Table.{refused_effects, closed_effects, sent, decide}
use Rattle.cip_laws.specs.Tells.{AllTell}
use Rattle.cip_routing.proofs.Kept.{spent_now, spent_still}
use Rattle.cip_laws.specs.Histories.{Turn, state_after, IsHistory}
use Rattle.cip_laws.specs.Weights.{mark, is_reply, is_asked_by, weight, weight_in}
use Rattle.cip_laws.proofs.Claims.{waits_for, claims_each}
use Rattle.cip_laws.proofs.Puts.{below_after, answered_ops}
use Rattle.cip_laws.proofs.OneReply.{claims, none_wait}
use Rattle.cip_laws.proofs.TakenUp.{takes_once}
use Rattle.cip_laws.proofs.Turns.{Turned, newest}
use Rattle.cip_laws.proofs.Weighing.{conserved}

module _ (op : ℕ) where
  -- whether the op is still to be used
  abbrev pub unspent : State → ℕ
  unspent s = mark (not (is_spent op s.ops))

  fewer : (a b : Bool) → (b ≡ true → a ≡ true) → mark (not a) ≤ mark (not b)
  fewer true b h = omega arith
  fewer false true h = let no : false ≡ true = h refl in absurd (cc)
  fewer false false h = omega arith

  stays : (config : ModuleSettings) (s : State) (e : Effect) → unspent (apply config s e) ≤ unspent s
  stays config s (Spends o) = fewer (is_spent op (spent_with o s.ops)) (is_spent op s.ops) (λ used. spent_still op o s.ops used)
  stays config s (Answers up asked) =
      let same = ap (λ ops. mark (not (is_spent op ops))) (answered_ops config s asked (resets config s asked)) in omega (arith, same)
  stays config s e = omega arith

  pub stays_list : (config : ModuleSettings) (s : State) (es : List Effect) → unspent (applied config s es) ≤ unspent s
  stays_list config s [] = omega arith
  stays_list config s (e ∷ es) = let here = stays config s e in let there = stays_list config (apply config s e) es in omega (arith, here, there)

  -- what is taken up for an op uses it up
  abbrev pub Uses : ModuleSettings → State → List Effect → Type 0
  Uses config s es = gain (takes_up (Local op)) es + unspent (applied config s es) ≤ unspent s

  unused : (o : ℕ) (s : State) (config : ModuleSettings) (rest : List Effect) → o ≡ op → is_spent o s.ops ≡ false
      → gain (takes_up (Local op)) (Spends o ∷ rest) ≤ 1 → Uses config s (Spends o ∷ rest)
  unused o s config rest same fresh most =
      let now : is_spent op (spent_with o s.ops) ≡ true = ap (λ (k : ℕ). is_spent k (spent_with o s.ops)) (sym same) ∙ spent_now o s.ops in
      let spent = ap (λ b. mark (not b)) now in
      let was = ap (λ b. mark (not b)) (ap (λ (k : ℕ). is_spent k s.ops) (sym same) ∙ fresh) in
      let later = stays_list config (apply config s (Spends o)) rest in
      omega (arith, most, spent, was, later)

  -- refused, or with the op first
  data Begins (o : ℕ) (es : List Effect) : Type 0 where
    Nothing : gain (takes_up (Local op)) es ≡ 0 → Begins o es
    First : (rest : List Effect) → es ≡ Spends o ∷ rest → Begins o es

  refused : (o : ℕ) (row : CommandRow) (rest : List Effect) → Begins o (refused_effects row (Spends o ∷ rest))
  refused o command.OpUsed rest = Nothing refl
  refused o command.NotOpen rest = Nothing refl
  refused o command.ReservedService rest = Nothing refl
  refused o command.WrongSize rest = Nothing refl
  refused o command.NoInstance rest = Nothing refl
  refused o command.Taken rest = First rest refl

  refused_all : (row : CommandRow) → gain (takes_up (Local op)) (refused_effects row []) ≡ 0
  refused_all command.OpUsed = refl
  refused_all command.NotOpen = refl
  refused_all command.ReservedService = refl
  refused_all command.WrongSize = refl
  refused_all command.NoInstance = refl
  refused_all command.Taken = refl

  closing : (s : State) (o of : ℕ) (timing : Timing) (row : CommandRow) (hop : Option Hop) → Begins o (refused_effects row (closed_effects s o of timing hop))
  closing s o of timing row None = Nothing (refused_all row)
  closing s o of timing row (Some hop) = refused o row _

  nothing : (config : ModuleSettings) (s : State) (es : List Effect) → gain (takes_up (Local op)) es ≡ 0 → Uses config s es
  nothing config s es none = let less = stays_list config s es in omega (arith, none, less)

  by_count : (o : ℕ) (config : ModuleSettings) (s : State) (event : Event) (es : List Effect) (b : Bool) → eqb o op ≡ b
      → gain (takes_up (Local op)) es ≤ mark b
      → AllTell config s event es → Begins o es → Uses config s es
  by_count o config s event es b t most tells (Nothing none) = nothing config s es none
  by_count o config s event es false t most tells (First rest is) = nothing config s es (omega (arith, most))
  by_count o config s event es true t most tells (First rest is) =
      let told = subst (AllTell config s event) is tells in
      subst (Uses config s) (sym is) (by_first o config s event rest (eqb-true o op t) (subst (λ (x : List Effect). gain (takes_up (Local op)) x ≤ 1) is most)
      told)
    where
      by_first : (o : ℕ) (config : ModuleSettings) (s : State) (event : Event) (rest : List Effect) → o ≡ op
          → gain (takes_up (Local op)) (Spends o ∷ rest) ≤ 1
          → AllTell config s event (Spends o ∷ rest) → Uses config s (Spends o ∷ rest)
      by_first o config s event rest same most told = unused o s config rest same told.0.unused most

  begins : (o : ℕ) (es fs : List Effect) → Some fs ≡ Some es → Begins o fs → Begins o es
  begins o es fs e h = let same : fs ≡ es = cc in subst (Begins o) same h

  pub uses : (config : ModuleSettings) (s : State) (event : Event) (new : State) (outs : List _) (turn : Turned config s event new outs)
      → Uses config s turn.effects
  uses config s event new outs turn = by_event event (takes_once (Local op) config s event turn.effects turn.decided) turn.tells turn.decided
    where
      by_event : (event : Event) → gain (takes_up (Local op)) turn.effects ≤ is_asked_by (Local op) event → AllTell config s event turn.effects
          → decide config s event ≡ Some turn.effects → Uses config s turn.effects
      by_event (events.Command (commands.Open o timing path params)) most tells e =
          by_count o config s _ turn.effects (eqb o op) refl most tells (begins o turn.effects _ e (refused o (op_row s o) _))
      by_event (events.Command (commands.LargeOpen o timing path params)) most tells e =
          by_count o config s _ turn.effects (eqb o op) refl most tells (begins o turn.effects _ e (refused o (op_row s o) _))
      by_event (events.Command (commands.Close o of timing)) most tells e =
          by_count o config s _ turn.effects (eqb o op) refl most tells
          (begins o turn.effects _ e (closing s o of timing (close_command_row s o of) (hop_by_op s.hops of)))
      by_event (events.Command (commands.Send o timing path request)) most tells e =
          by_count o config s _ turn.effects (eqb o op) refl most tells (begins o turn.effects _ e (refused o (send_row s o (sent timing path request)) _))
      by_event (events.Command (commands.Enter of bytes)) most tells e = nothing config s turn.effects (omega (arith, most))
      by_event (events.Command (commands.Set instance bytes)) most tells e = nothing config s turn.effects (omega (arith, most))
      by_event (events.Command (commands.Produce instance)) most tells e = nothing config s turn.effects (omega (arith, most))
      by_event (events.Frame port from (bodies.Request number bytes)) most tells e = nothing config s turn.effects (omega (arith, most))
      by_event (events.Frame port from (bodies.Reply number bytes)) most tells e = nothing config s turn.effects (omega (arith, most))
      by_event (events.Frame port from (bodies.Data id bytes)) most tells e = nothing config s turn.effects (omega (arith, most))
      by_event (events.Tick ms) most tells e = nothing config s turn.effects (omega (arith, most))

  at_most : (b : Bool) → mark b ≤ 1
  at_most true = omega arith
  at_most false = omega arith

  -- what a turn gives the op, what waits for it after it and whether it is still to be used, are at most what was before
  pub turn_once : (config : ModuleSettings) (turn : Turn) (turns : List Turn) → IsHistory config (turn ∷ turns)
      → weight_in (is_reply (Local op)) turn.outputs + waits_for (Local op) (state_after config (turn ∷ turns)) + unspent (state_after config (turn ∷ turns))
      ≤ waits_for (Local op) (state_after config turns) + unspent (state_after config turns)
  turn_once config turn turns h =
      let now = newest config turn turns h in
      let s = state_after config turns in
      let below = (claims config (Local op) turns h.0).0 in
      let sum = conserved config (is_reply (Local op)) (waits_for (Local op)) (takes_up (Local op)) _ (λ s e g. below_after config s e g)
      (λ s e g. claims_each config (Local op) s e g) s now.effects below in
      let given : weight_in (is_reply (Local op)) (outputs_of config s now.effects) ≡ weight_in (is_reply (Local op)) turn.outputs =
      ap (weight_in (is_reply (Local op))) now.out in
      let left : waits_for (Local op) (applied config s now.effects) ≡ waits_for (Local op) (state_after config (turn ∷ turns)) =
      ap (waits_for (Local op)) now.state in
      let used = uses config s turn.event (state_after config (turn ∷ turns)) turn.outputs now in
      let same : unspent (applied config s now.effects) ≡ unspent (state_after config (turn ∷ turns)) = ap unspent now.state in
      omega (arith, sum, given, left, used, same)

  -- its Dones, what waits for it, and whether it is still to be used, are one together
  pub done_once : (config : ModuleSettings) (turns : List Turn) → IsHistory config turns
      → weight (is_reply (Local op)) turns + waits_for (Local op) (state_after config turns) + unspent (state_after config turns) ≤ 1
  done_once config [] h = let none = none_wait config (Local op) in let small =
      at_most (not (is_spent op (initial_state config).ops)) in omega (arith, none, small)
  done_once config (turn ∷ turns) h =
      let now = turn_once config turn turns h in let old = done_once config turns h.0 in omega (arith, now, old)
