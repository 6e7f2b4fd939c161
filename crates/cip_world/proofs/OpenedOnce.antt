-- An op opens once: of two Opens of one op at one module one is refused.
use Rattle.std.proofs.Common.{◌≡◌, ℕ, Bool, true, false, cond, List, [], ◌∷◌, Some, refl, sym, ap, subst, ◌∙◌, ◌⊎◌, inl, inr, length}
use Rattle.cip_base.specs.declared.numbers.ModuleId.{ModuleId}
use Rattle.cip_hops.specs.declared.opening.HopUp.TheVariants.{Local as UpLocal}
use Rattle.cip_pending.specs.declared.entry.UpSide.TheVariants.{Local}
use Rattle.cip_open.specs.Open.{Open as OpenRequest}
use Rattle.cip_config.specs.declared.config.ModuleSettings.{ModuleSettings}
use Rattle.cip_routing.specs.CommandRows as rows
use Rattle.cip_event.specs.declared.event.Command.{Command}
use Rattle.cip_event.specs.declared.event.Event.TheVariants as events
use Rattle.cip_event.specs.declared.event.Output.{Output}
use Rattle.cip_event.specs.declared.event.Output.TheVariants as outputs
use Rattle.cip_event.specs.declared.event.Refused.TheVariants as refused
use Rattle.cip_routing.specs.Effects.{Effect, Spends, apply, applied, outputs_of, Answers, resets}
use Rattle.cip_laws.proofs.AskedOpens.{asks_effects, one_open}
use Rattle.cip_laws.specs.Histories.{Turn, state_after, IsHistory}
use Rattle.cip_routing.specs.OpenRows.{open_row}
use Rattle.cip_routing.specs.State.{State, is_spent}
use Rattle.cip_routing.specs.Table.{open_effects, refused_effects, asked_open, decide}
use Rattle.cip_laws.specs.Turns.{Has}
use Rattle.cip_routing.proofs.Kept.{spent_now, spent_still}
use Rattle.cip_laws.proofs.Turns.{Turned, newest}
use Rattle.cip_chassis.specs.Plan.{Plan}
use Rattle.cip_world.specs.declared.journal.Entry.{Entry}
use Rattle.cip_world.specs.declared.journal.Entry.TheVariants.{Step, Lost}
use Rattle.cip_world.specs.declared.journal.Input.TheVariants as inputs
use Rattle.cip_world.specs.Entering.{IsTaken, IsOpened}
use Rattle.cip_world.specs.Journals.{Journal, entry_at, part}
use Rattle.cip_world.specs.Runs.{IsModule, IsRun, state_in}
use Rattle.cip_world.proofs.Parts.{turn_of, part_step, part_here, same_module, step_here, run_history}
use Rattle.cip_world.proofs.Rooted.{entry_cases}
use Rattle.cip_laws.proofs.Puts.{answered_ops}

-- ---- what is used up stays so

stays : (config : ModuleSettings) (s : State) (e : Effect) (op : ℕ) → is_spent op s.ops ≡ true → is_spent op (apply config s e).ops ≡ true
stays config s (Spends o) op h = spent_still op o s.ops h
stays config s (Answers up asked) op h = ap (is_spent op) (answered_ops config s asked (resets config s asked)) ∙ h
stays config s e op h = h

stays_all : (config : ModuleSettings) (s : State) (es : List Effect) (op : ℕ) → is_spent op s.ops ≡ true → is_spent op (applied config s es).ops ≡ true
stays_all config s [] op h = h
stays_all config s (e ∷ es) op h = stays_all config (apply config s e) es op (stays config s e op h)

stays_turn : (config : ModuleSettings) (turns : List Turn) (turn : Turn) → IsHistory config (turn ∷ turns) → (op : ℕ)
    → is_spent op (state_after config turns).ops ≡ true
    → is_spent op (state_after config (turn ∷ turns)).ops ≡ true
stays_turn config turns turn h op used =
    let now = newest config turn turns h in
    ap (λ (s : State). is_spent op s.ops) (sym now.state) ∙ stays_all config (state_after config turns) now.effects op used

-- ---- an Open that is taken uses its op up

module _ (config : ModuleSettings) (turns : List Turn) (turn : Turn) (h : IsHistory config (turn ∷ turns)) (op : ℕ) (command : Command)
    (request : OpenRequest) (asks : asked_open config.identity command ≡ Some (op, request))
    (event_is : turn.event ≡ events.Command command) (taken : IsTaken turn.outputs) where
  abbrev s0 : State
  s0 = state_after config turns

  now : Turned config s0 turn.event (state_after config (turn ∷ turns)) turn.outputs
  now = newest config turn turns h

  abbrev rest : List Effect
  rest = open_effects s0 (Local op) request (open_row config s0 (UpLocal op) request)

  effects_are : now.effects ≡ refused_effects (cond (is_spent op s0.ops) rows.OpUsed rows.Taken) (Spends op ∷ rest)
  effects_are =
      let whole : Some now.effects ≡ Some (refused_effects (cond (is_spent op s0.ops) rows.OpUsed rows.Taken) (Spends op ∷ rest)) = sym now.decided
      ∙ ap (decide config s0) event_is ∙ ap (λ (es : List Effect). Some es) (asks_effects config s0 command op request asks) in
      cc

  -- it was not used before
  pub unused : is_spent op s0.ops ≡ false
  unused = by_spent (is_spent op s0.ops) refl
    where
      by_spent : (b : Bool) → is_spent op s0.ops ≡ b → is_spent op s0.ops ≡ false
      by_spent false t = t
      by_spent true t =
          let given : outputs.Refused refused.OpUsed ∷ [] ≡ turn.outputs =
          ap (λ c. outputs_of config s0 (refused_effects (cond c rows.OpUsed rows.Taken) (Spends op ∷ rest))) (sym t)
          ∙ ap (outputs_of config s0) (sym effects_are) ∙ now.out in
          absurd (taken refused.OpUsed (subst (λ (os : List Output). Has os (outputs.Refused refused.OpUsed)) given (inl refl)))

  -- and is now
  pub used : is_spent op (state_after config (turn ∷ turns)).ops ≡ true
  used =
      let es : now.effects ≡ Spends op ∷ rest = effects_are ∙ ap (λ c. refused_effects (cond c rows.OpUsed rows.Taken) (Spends op ∷ rest)) unused in
      ap (λ (s : State). is_spent op s.ops) (sym now.state) ∙ ap (λ (fs : List Effect). is_spent op (applied config s0 fs).ops) es
      ∙ stays_all config (apply config s0 (Spends op)) rest op (spent_now op s0.ops)

-- ---- in a run

-- the op is used up in every later state
pub used_later : (t : Plan) (j : Journal) (m : ℕ) (config : ModuleSettings) → IsRun t j → IsModule t m config
    → (k op : ℕ) (at : ModuleId) (command : Command) (request : OpenRequest) (outs : List Output) → asked_open config.identity command ≡ Some (op, request)
    → entry_at j k ≡ Some (Step at (inputs.Command command) outs) → at.0 ≡ m → IsTaken outs
    → is_spent op (state_in config m j).ops ≡ true
used_later t [] m config run is k op at command request outs asks e same taken = absurd (cc)
used_later t (x ∷ j) m config run is k op at command request outs asks e same taken =
    by_cases x run (entry_cases x j k (Step at (inputs.Command command) outs) e)
    (λ old. used_later t j m config run.0 is k op at command request outs asks old same taken)
  where
    newest_open : (y : IsRun t (Step at (inputs.Command command) outs ∷ j))
        → is_spent op (state_in config m (Step at (inputs.Command command) outs ∷ j)).ops ≡ true
    newest_open y =
        let turn = turn_of y.1.event outs in
        let here = part_here t m at (inputs.Command command) outs j y.1 same in
        let h : IsHistory config (turn ∷ part m j) =
        (run_history t j m config y.0 is, step_here t j m at.0 config (inputs.Command command) outs same is y.1) in
        ap (λ (turns : List Turn). is_spent op (state_after config turns).ops) here
        ∙ used config (part m j) turn h op command request asks y.1.given taken

    later : (x : Entry) → (y : IsRun t (x ∷ j)) → is_spent op (state_in config m j).ops ≡ true → is_spent op (state_in config m (x ∷ j)).ops ≡ true
    later (Step n input o) y was =
        part_step (λ turns. is_spent op (state_after config turns).ops ≡ true) t m n input o j y.1
        (λ same. stays_turn config (part m j) (turn_of y.1.event o)
        (run_history t j m config y.0 is, step_here t j m n.0 config input o same is y.1) op was) was
    later (Lost frame) y was = was

    by_cases : (x : Entry) → (y : IsRun t (x ∷ j)) → ((k ≡ length j) × (x ≡ Step at (inputs.Command command) outs))
        ⊎ (entry_at j k ≡ Some (Step at (inputs.Command command) outs))
        → (entry_at j k ≡ Some (Step at (inputs.Command command) outs) → is_spent op (state_in config m j).ops ≡ true)
        → is_spent op (state_in config m (x ∷ j)).ops ≡ true
    by_cases x y (inl here) older =
        subst (λ (z : Entry). (r : IsRun t (z ∷ j)) → is_spent op (state_in config m (z ∷ j)).ops ≡ true) (sym here.1) newest_open y
    by_cases x y (inr old) older = later x y (older old)

-- ---- once

abbrev open_entry : ModuleId → Command → List Output → Entry
open_entry at command outs = Step at (inputs.Command command) outs

-- a command of the op in entry k, which asks for an open and is taken
record OpenAt (j : Journal) (config : ModuleSettings) (k m op : ℕ) : Type 0 where
  at : ModuleId
  command : Command
  request : OpenRequest
  asks : asked_open config.identity command ≡ Some (op, request)
  outs : List Output
  is : entry_at j k ≡ Some (open_entry at command outs)
  at_is : at.0 ≡ m
  taken : IsTaken outs

-- the newest is not used up before
fresh : (t : Plan) (e : Entry) (j : Journal) (m : ℕ) (config : ModuleSettings) (op : ℕ) (at : ModuleId) (command : Command)
    (request : OpenRequest) (outs : List Output) → asked_open config.identity command ≡ Some (op, request)
    → IsRun t (e ∷ j) → IsModule t m config → e ≡ open_entry at command outs → at.0 ≡ m → IsTaken outs
    → is_spent op (state_in config m j).ops ≡ false
fresh t e j m config op at command request outs asks run is same at_is taken =
    let y : IsRun t (open_entry at command outs ∷ j) = subst (λ (x : Entry). IsRun t (x ∷ j)) same run in
    let h : IsHistory config (turn_of y.1.event outs ∷ part m j) =
    (run_history t j m config y.0 is, step_here t j m at.0 config (inputs.Command command) outs at_is is y.1) in
    unused config (part m j) (turn_of y.1.event outs) h op command request asks y.1.given taken

entry_once : (t : Plan) (j : Journal) (m : ℕ) (config : ModuleSettings) (op i k : ℕ) → IsRun t j → IsModule t m config
    → OpenAt j config i m op → OpenAt j config k m op → i ≡ k
entry_once t [] m config op i k run is a b = let no = a.is in absurd (cc)
entry_once t (e ∷ j) m config op i k run is a b =
    by_cases (entry_cases e j i (open_entry a.at a.command a.outs) a.is)
    (entry_cases e j k (open_entry b.at b.command b.outs) b.is)
    (λ x y. entry_once t j m config op i k run.0 is x y)
  where
    by_cases : ((i ≡ length j) × (e ≡ open_entry a.at a.command a.outs)) ⊎
        (entry_at j i ≡ Some (open_entry a.at a.command a.outs))
        → ((k ≡ length j) × (e ≡ open_entry b.at b.command b.outs)) ⊎
        (entry_at j k ≡ Some (open_entry b.at b.command b.outs))
        → (OpenAt j config i m op → OpenAt j config k m op → i ≡ k) → i ≡ k
    by_cases (inl here) (inl too) older = here.0 ∙ sym too.0
    by_cases (inl here) (inr old) older =
        let no : false ≡ true = sym (fresh t e j m config op a.at a.command a.request a.outs a.asks run is here.1 a.at_is a.taken)
        ∙ used_later t j m config run.0 is k op b.at b.command b.request b.outs b.asks old b.at_is b.taken in
        absurd (cc)
    by_cases (inr old) (inl too) older =
        let no : false ≡ true = sym (fresh t e j m config op b.at b.command b.request b.outs b.asks run is too.1 b.at_is b.taken)
        ∙ used_later t j m config run.0 is i op a.at a.command a.request a.outs a.asks old a.at_is a.taken in
        absurd (cc)
    by_cases (inr old) (inr too) older =
        older (record { at = a.at; command = a.command; request = a.request; asks = a.asks; outs = a.outs; is = old; at_is = a.at_is; taken = a.taken })
        (record { at = b.at; command = b.command; request = b.request; asks = b.asks; outs = b.outs; is = too; at_is = b.at_is; taken = b.taken })

open_at : (t : Plan) (j : Journal) (m op : ℕ) (r : OpenRequest) (o : IsOpened t j m op r) → OpenAt j o.config o.entry m op
open_at t j m op r o = record { at = o.at; command = o.command; request = r; asks = o.asks; outs = o.outs; is = o.is; at_is = o.at_is; taken = o.taken }

same_command : (a b : ModuleId) (c d : Command) (o s : List Output) → Some (open_entry a c o) ≡ Some (open_entry b d s) → c ≡ d
same_command a b c d o s e = cc

-- the op of a module spells one open
pub opened_once : (t : Plan) (j : Journal) (m op : ℕ) (r s : OpenRequest) → IsRun t j → (a : IsOpened t j m op r) → (b : IsOpened t j m op s)
    → (a.entry ≡ b.entry) × (r ≡ s)
opened_once t j m op r s run a b =
    let config = same_module t m m a.config b.config refl a.is_module b.is_module in
    let there = subst (λ (c : ModuleSettings). OpenAt j c b.entry m op) (sym config) (open_at t j m op s b) in
    let one = entry_once t j m a.config op a.entry b.entry run a.is_module (open_at t j m op r a) there in
    let commands = same_command a.at b.at a.command b.command a.outs b.outs (sym a.is ∙ ap (entry_at j) one ∙ b.is) in
    let asks : asked_open a.config.identity b.command ≡ Some (op, s) = ap (λ (c : ModuleSettings). asked_open c.identity b.command) config ∙ b.asks in
    (one, ap (λ (x : ℕ × OpenRequest). x.1) (one_open a.config.identity a.command b.command (op, r) (op, s) commands a.asks asks))
