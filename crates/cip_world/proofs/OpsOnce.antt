-- An op is used in one entry of a run: a module takes one command of it, and refuses all others.
use Rattle.std.proofs.Common.{◌≡◌, ℕ, ◌<◌, Bool, true, false, cond, not, ◌&&◌, List, [], ◌∷◌, Option, Some, None, refl, sym, ap, subst, ◌∙◌, inl, inr, arith}
use Rattle.std.proofs.Common.{eqb, length, nat_lt, ◌++◌}
use Rattle.std.specs.List.{list_any}
use Rattle.std.specs.Prelude.{slice_index, is_some}
use Rattle.std.proofs.lemmas.Bool.{and_parts, and_from, eqb-true, eq-eqb, cases_order}
use Rattle.cip_pending.specs.declared.entry.UpSide.TheVariants.{Local}
use Rattle.cip_base.specs.declared.timing.Timing.{Timing}
use Rattle.cip_close.specs.Close.{Close}
use Rattle.cip_hops.specs.declared.hop.Hop.{Hop}
use Rattle.cip_hops.specs.Hops.{hop_by_op}
use Rattle.cip_routing.specs.CloseRows.{CloseRow, close_row}
use Rattle.cip_routing.specs.CloseRows as closes
use Rattle.cip_laws.specs.Tells.{command_asker}
use Rattle.cip_unconnected.specs.Unconnected.{Unconnected, is_too_long}
use Rattle.cip_open.specs.Open.{Open}
use Rattle.cip_routing.specs.CommandRows.{CommandRow}
use Rattle.cip_routing.specs.CommandRows as command
use Rattle.cip_config.specs.declared.config.ModuleSettings.{ModuleSettings}
use Rattle.cip_event.specs.declared.event.Command.{Command}
use Rattle.cip_event.specs.declared.event.Command.TheVariants as commands
use Rattle.cip_event.specs.declared.event.Event.{Event}
use Rattle.cip_event.specs.declared.event.Event.TheVariants as events
use Rattle.cip_event.specs.declared.event.Output.{Output}
use Rattle.cip_event.specs.declared.event.Output.TheVariants as outputs
use Rattle.cip_laws.specs.Turns.{Has}
use Rattle.cip_event.specs.declared.event.Refused.{Refused}
use Rattle.cip_routing.specs.CommandRows.{op_row, send_row}
use Rattle.cip_routing.specs.Effects.{Effect, Spends, RefusesCommand, apply, applied, outputs_of, Answers, resets, ended_by}
use Rattle.cip_laws.specs.Histories.{Turn, state_after, IsHistory}
use Rattle.cip_routing.specs.OpenRows.{OpenRow, open_row}
use Rattle.cip_routing.specs.OpenRows as opens
use Rattle.cip_routing.specs.State.{State, is_spent}
use Rattle.cip_routing.specs.Table.{decide, refused_effects, open_effects, close_effects, closed_effects, close_of, unconnected_effects, open_of, sent}
use Rattle.cip_routing.specs.Table.{open_command_effects}
use Rattle.cip_routing.specs.UnconnectedRows.{UnconnectedRow, unconnected_row}
use Rattle.cip_routing.specs.UnconnectedRows as unconnected
use Rattle.cip_routing.proofs.Kept.{spent_now, spent_still}
use Rattle.cip_laws.proofs.Turns.{Turned, newest}
use Rattle.cip_hops.specs.declared.opening.HopUp.TheVariants.{Local as UpLocal}
use Rattle.cip_chassis.specs.Plan.{Plan}
use Rattle.cip_world.specs.declared.journal.Entry.{Entry}
use Rattle.cip_world.specs.declared.journal.Entry.TheVariants.{Step, Lost}
use Rattle.cip_world.specs.declared.journal.Input.{Input}
use Rattle.cip_world.specs.declared.journal.Input.TheVariants as inputs
use Rattle.cip_world.specs.Journals.{Journal, part}
use Rattle.cip_world.specs.Mirrors.{IsOlder}
use Rattle.cip_world.specs.Runs.{IsModule, state_in, IsGiven, IsRun}
use Rattle.cip_world.specs.StepsIn.{StepIn, state_before}
use Rattle.cip_world.specs.Trails.{is_refusal, opens_or_sends, asks_for, is_command}
use Rattle.cip_world.proofs.Entries.{older_one, turned_in}
use Rattle.cip_world.proofs.Moments.{run_older, before_that}
use Rattle.cip_world.proofs.Parts.{turn_of, part_here, part_step, step_here, same_module, run_history}
use Rattle.cip_event.specs.Params.{widened}
use Rattle.cip_laws.proofs.Puts.{answered_ops}
use Rattle.cip_routing.specs.Resets.{held_ops, all_ended}

-- ---- one command

-- a command of an op is refused, or uses the op, which was unused, before anything else
pub data Uses (config : ModuleSettings) (s : State) (op : ℕ) (es : List Effect) : Type 0 where
  IsRefused : (fault : Refused) → es ≡ RefusesCommand fault ∷ [] → Uses config s op es
  IsTaken : (rest : List Effect) → is_spent op s.ops ≡ false → es ≡ Spends op ∷ rest → list_any is_refusal (outputs_of config s es) ≡ false
      → Uses config s op es

module _ (config : ModuleSettings) (s : State) (op : ℕ) where
  uses_by : (row : CommandRow) (rest : List Effect) → (row ≡ command.Taken → is_spent op s.ops ≡ false)
      → list_any is_refusal (outputs_of config s (Spends op ∷ rest)) ≡ false
      → Uses config s op (refused_effects row (Spends op ∷ rest))
  uses_by command.OpUsed rest unused none = IsRefused _ refl
  uses_by command.NotOpen rest unused none = IsRefused _ refl
  uses_by command.ReservedService rest unused none = IsRefused _ refl
  uses_by command.WrongSize rest unused none = IsRefused _ refl
  uses_by command.NoInstance rest unused none = IsRefused _ refl
  uses_by command.Taken rest unused none = IsTaken rest (unused refl) refl none

  taken_open : (b : Bool) → cond b command.OpUsed command.Taken ≡ command.Taken → b ≡ false
  taken_open true e = absurd (cc)
  taken_open false e = refl

  taken_send : (a b c : Bool) → cond a command.OpUsed (cond b command.ReservedService (cond c command.WrongSize command.Taken)) ≡ command.Taken → a ≡ false
  taken_send true b c e = absurd (cc)
  taken_send false b c e = refl

  send_unused : (u : Unconnected) → send_row s op u ≡ command.Taken → is_spent op s.ops ≡ false
  unfolding send_row
  send_unused u e = taken_send (is_spent op s.ops) (eqb (slice_index u.request 0) 0x52) (is_too_long u) e

  open_none : (o : Open) (row : OpenRow) → list_any is_refusal (outputs_of config s (Spends op ∷ open_effects s (Local op) o row)) ≡ false
  open_none o (opens.Refuses refusal) = refl
  open_none o (opens.Forwarded port address rest) = refl
  open_none o (opens.Accepted link) = refl

  told_none : (ops : List ℕ) → list_any is_refusal (all_ended ops ++ []) ≡ false
  told_none [] = refl
  told_none (o ∷ ops) = told_none ops

  reset_none : (b : Bool) (t : State) → list_any is_refusal (ended_by b t ++ []) ≡ false
  reset_none true t = told_none (held_ops t)
  reset_none false t = refl

  send_none : (u : Unconnected) (row : UnconnectedRow) → list_any is_refusal (outputs_of config s (Spends op ∷ unconnected_effects (Local op) u row)) ≡ false
  send_none u (unconnected.Refuses refusal) = refl
  send_none u (unconnected.AnsweredHere request) = reset_none (resets config s request) (apply config s (Spends op))
  send_none u (unconnected.Forwarded port address rest) = refl

  uses_of : (es fs : List Effect) → Some es ≡ Some fs → Uses config s op es → Uses config s op fs
  uses_of es fs e h = let same : es ≡ fs = cc in subst (Uses config s op) same h

  close_none : (c : Close) (row : CloseRow) → list_any is_refusal (outputs_of config s (Spends op ∷ close_effects (Local op) c row)) ≡ false
  close_none c (closes.Refuses refusal) = refl
  close_none c (closes.Forwarded port address rest) = refl
  close_none c closes.ClosedAtTheEnd = refl

  close_unused : (a b : Bool) → cond a command.OpUsed (cond b command.NotOpen command.Taken) ≡ command.Taken → (a ≡ false) × (b ≡ false)
  close_unused true b e = absurd (cc)
  close_unused false true e = absurd (cc)
  close_unused false false e = (refl, refl)

  -- a Close of what is not open is refused
  nothing_open : (row : CommandRow) → (row ≡ command.Taken → ⊥) → Uses config s op (refused_effects row [])
  nothing_open command.OpUsed h = IsRefused _ refl
  nothing_open command.NotOpen h = IsRefused _ refl
  nothing_open command.ReservedService h = IsRefused _ refl
  nothing_open command.WrongSize h = IsRefused _ refl
  nothing_open command.NoInstance h = IsRefused _ refl
  nothing_open command.Taken h = absurd (h refl)

  uses_close : (of : ℕ) (timing : Timing) (x : Option Hop)
      → Uses config s op
      (refused_effects (cond (is_spent op s.ops) command.OpUsed (cond (not (is_some x)) command.NotOpen command.Taken)) (closed_effects s op of timing x))
  uses_close of timing None = nothing_open (cond (is_spent op s.ops) command.OpUsed command.NotOpen)
      (λ e. let no = (close_unused (is_spent op s.ops) true e).1 in cc)
  uses_close of timing (Some hop) =
      uses_by (cond (is_spent op s.ops) command.OpUsed command.Taken)
      (close_effects (Local op) (close_of timing hop) (close_row s (Local of) (close_of timing hop)))
      (taken_open (is_spent op s.ops)) (close_none (close_of timing hop) (close_row s (Local of) (close_of timing hop)))

  local_is : (o : ℕ) → Some (Local o) ≡ Some (Local op) → o ≡ op
  local_is o e = cc

  uses_open : (oo : Open) → Uses config s op (open_command_effects config s op oo)
  uses_open oo =
      uses_by (op_row s op) (open_effects s (Local op) oo (open_row config s (UpLocal op) oo)) (taken_open (is_spent op s.ops))
      (open_none oo (open_row config s (UpLocal op) oo))

  pub uses : (c : Command) (es : List Effect) → command_asker c ≡ Some (Local op) → decide config s (events.Command c) ≡ Some es → Uses config s op es
  uses (commands.Open o timing path params) es is e =
      let same = local_is o is in
      let oo = open_of config.identity false timing path (widened params) in
      uses_of _ es (ap (λ (k : ℕ). Some (open_command_effects config s k oo)) (sym same) ∙ e) (uses_open oo)
  uses (commands.LargeOpen o timing path params) es is e =
      let same = local_is o is in
      let oo = open_of config.identity true timing path params in
      uses_of _ es (ap (λ (k : ℕ). Some (open_command_effects config s k oo)) (sym same) ∙ e) (uses_open oo)
  uses (commands.Send o timing path asked) es is e =
      let same = local_is o is in
      let u = sent timing path asked in
      uses_of _ es (ap (λ (k : ℕ). decide config s (events.Command (commands.Send k timing path asked))) (sym same) ∙ e)
      (uses_by (send_row s op u) (unconnected_effects (Local op) u (unconnected_row config s.pendings u)) (send_unused u)
      (send_none u (unconnected_row config s.pendings u)))
  uses (commands.Close o of timing) es is e =
      let same = local_is o is in
      uses_of _ es (ap (λ (k : ℕ). decide config s (events.Command (commands.Close k of timing))) (sym same) ∙ e)
      (uses_close of timing (hop_by_op s.hops of))
  uses (commands.Enter of bytes) es is e = absurd (cc)
  uses (commands.Set instance bytes) es is e = absurd (cc)
  uses (commands.Produce instance) es is e = absurd (cc)

-- ---- what was used stays so

module _ (op : ℕ) where
  stays : (config : ModuleSettings) (s : State) (e : Effect) → is_spent op s.ops ≡ true → is_spent op (apply config s e).ops ≡ true
  stays config s (Spends o) h = spent_still op o s.ops h
  stays config s (Answers up asked) h = ap (is_spent op) (answered_ops config s asked (resets config s asked)) ∙ h
  stays config s e h = h

  stays_all : (config : ModuleSettings) (s : State) (es : List Effect) → is_spent op s.ops ≡ true → is_spent op (applied config s es).ops ≡ true
  stays_all config s [] h = h
  stays_all config s (e ∷ es) h = stays_all config (apply config s e) es (stays config s e h)

  stays_turn : (config : ModuleSettings) (s new : State) (event : Event) (outs : List Output) → Turned config s event new outs → is_spent op s.ops ≡ true
      → is_spent op new.ops ≡ true
  stays_turn config s new event outs turn h = ap (λ (x : State). is_spent op x.ops) (sym turn.state) ∙ stays_all config s turn.effects h

  stays_newest : (t : Plan) (m : ℕ) (config : ModuleSettings) (e : Entry) (j : Journal) → IsRun t (e ∷ j) → IsModule t m config
      → is_spent op (state_in config m j).ops ≡ true
      → is_spent op (state_in config m (e ∷ j)).ops ≡ true
  stays_newest t m config (Step n input outs) j run is h =
      part_step (λ turns. is_spent op (state_after config turns).ops ≡ true) t m n input outs j run.1
      (λ same.
      let history : IsHistory config (turn_of run.1.event outs ∷ part m j) =
      (run_history t j m config run.0 is, step_here t j m n.0 config input outs same is run.1) in
      stays_turn config (state_in config m j) (state_after config (turn_of run.1.event outs ∷ part m j)) run.1.event outs
      (newest config (turn_of run.1.event outs) (part m j) history) h)
      h
  stays_newest t m config (Lost frame) j run is h = h

  pub stays_older : (t : Plan) (m : ℕ) (config : ModuleSettings) (k j : Journal) → IsRun t j → IsModule t m config → IsOlder k j
      → is_spent op (state_in config m k).ops ≡ true → is_spent op (state_in config m j).ops ≡ true
  stays_older t m config k [] run is older h = subst (λ (x : Journal). is_spent op (state_in config m x).ops ≡ true) older h
  stays_older t m config k (e ∷ j) run is (inl same) h = subst (λ (x : Journal). is_spent op (state_in config m x).ops ≡ true) same h
  stays_older t m config k (e ∷ j) run is (inr older) h =
      stays_newest t m config e j run is (stays_older t m config k j run.0 is older h)

-- ---- entries

-- a command of the op that module m did not refuse
pub record CommandIn (t : Plan) (j : Journal) (m op k : ℕ) : Type 0 where
  pub step : StepIn t j k
  pub here : step.at.0 ≡ m
  pub command : Command
  pub event_is : step.taken.event ≡ events.Command command
  pub asks : command_asker command ≡ Some (Local op)
  pub unrefused : list_any is_refusal step.outputs ≡ false

input_is : (t : Plan) (j : Journal) (m : ℕ) (input : Input) (event : Event) (c : Command) → IsGiven t j m input event → event ≡ events.Command c
    → input ≡ inputs.Command c
input_is t j m (inputs.Command x) event c given e = let both : events.Command x ≡ events.Command c = sym given ∙ e in cc
input_is t j m (inputs.Tick ms) event c given e = let both : events.Tick ms ≡ events.Command c = sym given ∙ e in absurd (cc)
input_is t j m (inputs.Frame port from name) event c given e =
    let both : events.Frame port from given.waits.flight.body ≡ events.Command c = sym given.event_is ∙ e in absurd (cc)

not_false : (b : Bool) → b ≡ false → not b ≡ true
not_false b e = ap not e

-- the entry of an Open or a Send is that of a command
pub command_there : (t : Plan) (j : Journal) (m op k : ℕ) (c : CommandIn t j m op k) → opens_or_sends op c.command ≡ true
    → is_command m op (Step c.step.at c.step.input c.step.outputs) ≡ true
command_there t j m op k c asks =
    let input = input_is t c.step.before c.step.at.0 c.step.input c.step.taken.event c.command c.step.taken.given c.event_is in
    and_from (eqb c.step.at.0 m && asks_for op c.step.input) (not (list_any is_refusal c.step.outputs))
    (and_from (eqb c.step.at.0 m) (asks_for op c.step.input) (eq-eqb c.step.at.0 m c.here) (ap (asks_for op) input ∙ asks))
    (not_false (list_any is_refusal c.step.outputs) c.unrefused)

true_not : (b : Bool) → not b ≡ true → b ≡ false
true_not true e = absurd (cc)
true_not false e = refl

asked_command : (t : Plan) (j : Journal) (m op : ℕ) (input : Input) (event : Event) → IsGiven t j m input event → asks_for op input ≡ true
    → (c : Command) × (event ≡ events.Command c) × (opens_or_sends op c ≡ true)
asked_command t j m op (inputs.Command c) event given e = (c, given, e)
asked_command t j m op (inputs.Tick ms) event given e = absurd (cc)
asked_command t j m op (inputs.Frame port from name) event given e = absurd (cc)

asks_so : (op : ℕ) (c : Command) → opens_or_sends op c ≡ true → command_asker c ≡ Some (Local op)
asks_so op (commands.Open o timing path params) e = ap (λ (k : ℕ). Some (Local k)) (eqb-true o op e)
asks_so op (commands.LargeOpen o timing path params) e = ap (λ (k : ℕ). Some (Local k)) (eqb-true o op e)
asks_so op (commands.Send o timing path asked) e = ap (λ (k : ℕ). Some (Local k)) (eqb-true o op e)
asks_so op (commands.Close o of timing) e = absurd (cc)
asks_so op (commands.Enter of bytes) e = absurd (cc)
asks_so op (commands.Set instance bytes) e = absurd (cc)
asks_so op (commands.Produce instance) e = absurd (cc)

-- the entry of a command is such a step, an Open or a Send
pub command_in : (t : Plan) (j : Journal) (m op k : ℕ) (s : StepIn t j k) → is_command m op (Step s.at s.input s.outputs) ≡ true
    → (c : CommandIn t j m op k) × (opens_or_sends op c.command ≡ true)
command_in t j m op k s h =
    let all = and_parts (eqb s.at.0 m && asks_for op s.input) (not (list_any is_refusal s.outputs)) h in
    let both = and_parts (eqb s.at.0 m) (asks_for op s.input) all.0 in
    let c = asked_command t s.before s.at.0 op s.input s.taken.event s.taken.given both.1 in (
      record {
        step = s;
        here = eqb-true s.at.0 m both.0;
        command = c.0;
        event_is = c.1;
        asks = asks_so op c.0 c.2;
        unrefused = true_not (list_any is_refusal s.outputs) all.1;
      },
      c.2,
    )

-- the op is unused before the entry, and used after it
module _ (t : Plan) (j : Journal) (m op k : ℕ) (run : IsRun t j) (c : CommandIn t j m op k) where
  abbrev own : ModuleSettings
  own = c.step.taken.config

  abbrev after : State
  after = state_after own (turn_of c.step.taken.event c.step.outputs ∷ part c.step.at.0 c.step.before)

  now : Turned own (state_before c.step) c.step.taken.event after c.step.outputs
  now = turned_in t j k run c.step

  used_by : Uses own (state_before c.step) op now.effects → (is_spent op (state_before c.step).ops ≡ false) × (is_spent op after.ops ≡ true)
  used_by (IsRefused fault is) =
      let outs : outputs_of own (state_before c.step) (RefusesCommand fault ∷ []) ≡ c.step.outputs =
      ap (outputs_of own (state_before c.step)) (sym is) ∙ now.out in
      let yes_ : true ≡ list_any is_refusal c.step.outputs = ap (list_any is_refusal) outs in
      let no_ = c.unrefused in absurd (cc)
  used_by (IsTaken rest unused is none) = (
    unused,
    ap (λ (x : State). is_spent op x.ops) (sym now.state) ∙ ap (λ (es : List Effect). is_spent op (applied own (state_before c.step) es).ops) is
        ∙ stays_all op own (apply own (state_before c.step) (Spends op)) rest (spent_now op (state_before c.step).ops),
  )

  pub used : (is_spent op (state_before c.step).ops ≡ false) × (is_spent op after.ops ≡ true)
  used =
      used_by (uses own (state_before c.step) op c.command now.effects c.asks
      (subst (λ (e : Event). decide own (state_before c.step) e ≡ Some now.effects) c.event_is now.decided))

-- of two the one is no older than the other
not_before : (t : Plan) (j : Journal) (m op k l : ℕ) → IsRun t j → (c : CommandIn t j m op k) (d : CommandIn t j m op l) → k < l → ⊥
not_before t j m op k l run c d less =
    let was = c.step.number in let is_ = d.step.number in
    let older : IsOlder (Step c.step.at c.step.input c.step.outputs ∷ c.step.before) d.step.before =
    older_one (Step c.step.at c.step.input c.step.outputs ∷ c.step.before) d.step.before j c.step.is
    (before_that (Step d.step.at d.step.input d.step.outputs) d.step.before j d.step.is) (omega (arith, was, is_, less)) in
    let run_then : IsRun t d.step.before = (run_older t (Step d.step.at d.step.input d.step.outputs ∷ d.step.before) j d.step.is run).0 in
    let same : d.step.taken.config ≡ c.step.taken.config =
    same_module t c.step.at.0 d.step.at.0 d.step.taken.config c.step.taken.config (d.here ∙ sym c.here) d.step.taken.is_module c.step.taken.is_module in
    let there : is_spent op (state_in c.step.taken.config c.step.at.0 (Step c.step.at c.step.input c.step.outputs ∷ c.step.before)).ops ≡ true =
    subst (λ (turns : List Turn). is_spent op (state_after c.step.taken.config turns).ops ≡ true)
    (sym (part_here t c.step.at.0 c.step.at c.step.input c.step.outputs c.step.before c.step.taken refl)) (used t j m op k run c).1 in
    let later : is_spent op (state_in c.step.taken.config c.step.at.0 d.step.before).ops ≡ true =
    stays_older op t c.step.at.0 c.step.taken.config
    (Step c.step.at c.step.input c.step.outputs ∷ c.step.before) d.step.before run_then c.step.taken.is_module older there in
    let moved : is_spent op (state_in d.step.taken.config d.step.at.0 d.step.before).ops ≡ true =
    subst (λ (x : ModuleSettings). is_spent op (state_in x d.step.at.0 d.step.before).ops ≡ true) (sym same)
    (subst (λ (i : ℕ). is_spent op (state_in c.step.taken.config i d.step.before).ops ≡ true) (c.here ∙ sym d.here) later) in
    let unused = (used t j m op l run d).0 in
    cc

pub one_command : (t : Plan) (j : Journal) (m op k l : ℕ) → IsRun t j → CommandIn t j m op k → CommandIn t j m op l → k ≡ l
one_command t j m op k l run c d =
    elim (cases_order k l) [
      | inl same ↦ same
      | inr other ↦ elim other [
        | inl below ↦ absurd (not_before t j m op k l run c d below)
        | inr above ↦ absurd (not_before t j m op l k run d c above)
      ]
    ]

-- a step of a command that did anything but refuse it did not refuse it
pub unrefused_in : (t : Plan) (j : Journal) (op k : ℕ) → IsRun t j → (s : StepIn t j k) → (c : Command) → s.taken.event ≡ events.Command c
    → command_asker c ≡ Some (Local op) → (x : Output) → Has s.outputs x → is_refusal x ≡ false → list_any is_refusal s.outputs ≡ false
unrefused_in t j op k run s c event_is asks x has other =
    by_use (uses s.taken.config (state_before s) op c turn.effects asks
    (subst (λ (e : Event). decide s.taken.config (state_before s) e ≡ Some turn.effects) event_is turn.decided))
  where
    turn : Turned s.taken.config (state_before s) s.taken.event (state_after s.taken.config (turn_of s.taken.event s.outputs ∷ part s.at.0 s.before)) s.outputs
    turn = turned_in t j k run s

    only : (fault : Refused) → Has (outputs.Refused fault ∷ []) x → ⊥
    only fault (inl e) = let yes_ = ap is_refusal e in cc
    only fault (inr h) = h

    by_use : Uses s.taken.config (state_before s) op turn.effects → list_any is_refusal s.outputs ≡ false
    by_use (IsRefused fault is) =
        let outs : outputs_of s.taken.config (state_before s) (RefusesCommand fault ∷ []) ≡ s.outputs =
        ap (outputs_of s.taken.config (state_before s)) (sym is) ∙ turn.out in
        absurd (only fault (subst (λ (os : List Output). Has os x) (sym outs) has))
    by_use (IsTaken rest unused is none) = ap (list_any is_refusal) (sym turn.out) ∙ none
