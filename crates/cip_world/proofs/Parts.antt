-- The part of a module in a journal, when an entry is added.
use Rattle.std.proofs.Common.{◌≡◌, ℕ, ◌≤◌, true, false, cond, List, [], ◌∷◌, Option, Some, None, refl, sym, ap, subst, ◌∙◌, ◌⊎◌, inl, inr, arith, eqb}
use Rattle.std.specs.Prelude.{slice_get}
use Rattle.std.proofs.lemmas.Bool.{eqb-true, eq-eqb, cond-true}
use Rattle.cip_config.specs.declared.config.ModuleSettings.{ModuleSettings}
use Rattle.cip_event.specs.declared.event.Event.{Event}
use Rattle.cip_event.specs.declared.event.Output.{Output}
use Rattle.cip_routing.specs.State.{State}
use Rattle.cip_routing.specs.Table.{Stepped, table_step}
use Rattle.cip_world.specs.declared.journal.Input.{Input}
use Rattle.cip_world.specs.declared.journal.Input.TheVariants.{Command, Tick, Frame}
use Rattle.cip_base.specs.declared.numbers.ModuleId.{ModuleId}
use Rattle.cip_world.specs.declared.journal.Entry.{Entry}
use Rattle.cip_world.specs.declared.journal.Entry.TheVariants.{Step, Lost}
use Rattle.cip_laws.specs.Histories.{Turn, stepped, next_state, IsHistory}
use Rattle.cip_chassis.specs.Plan.{Plan}
use Rattle.cip_world.specs.Journals.{Journal, arrival, event_of, with_turn, part}
use Rattle.cip_world.specs.Runs.{IsModule, state_in, IsGiven, IsStepAt, IsRun}
use Rattle.cip_laws.specs.Weights.{weight}
use Rattle.cip_laws.specs.Turns.{SomeTurn}

abbrev pub turn_of : Event → List Output → Turn
turn_of event outs = record { event = event; outputs = outs }

-- what is given is the event of its input
pub given_event : (t : Plan) (j : Journal) (n : ℕ) (input : Input) (event : Event) → IsGiven t j n input event → event_of j input ≡ Some event
given_event t j n (Command command) event h = ap (λ (e : Event). Some e) (sym h)
given_event t j n (Tick ms) event h = ap (λ (e : Event). Some e) (sym h)
given_event t j n (Frame port from name) event a = ap (arrival port from) a.waits.sent ∙ ap (λ (e : Event). Some e) (sym a.event_is)

-- the turn of an entry, before those of m
pub turn_there : (t : Plan) (m : ℕ) (n : ModuleId) (input : Input) (outs : List Output) (j : Journal) (s : IsStepAt t j n.0 input outs)
    → with_turn (event_of j input) outs (part m j) ≡ turn_of s.event outs ∷ part m j
turn_there t m n input outs j s = ap (λ o. with_turn o outs (part m j)) (given_event t j n.0 input s.event s.given)

-- an entry of m itself
pub part_here : (t : Plan) (m : ℕ) (n : ModuleId) (input : Input) (outs : List Output) (j : Journal) (s : IsStepAt t j n.0 input outs) → n.0 ≡ m
    → part m (Step n input outs ∷ j) ≡ turn_of s.event outs ∷ part m j
part_here t m n input outs j s same = cond-true (eqb n.0 m) (with_turn (event_of j input) outs (part m j)) (part m j) (eq-eqb n.0 m same)
    ∙ turn_there t m n input outs j s

-- what holds of m's part, and of that with the new turn where the entry is of m, holds of the new part
pub part_step : (P : List Turn → Type 0) (t : Plan) (m : ℕ) (n : ModuleId) (input : Input) (outs : List Output) (j : Journal) (s : IsStepAt t j n.0 input outs)
    → (n.0 ≡ m → P (turn_of s.event outs ∷ part m j)) → P (part m j) → P (part m (Step n input outs ∷ j))
part_step P t m n input outs j s here old =
    elim (eqb n.0 m) as (λ b. eqb n.0 m ≡ b → P (cond b (with_turn (event_of j input) outs (part m j)) (part m j))) [
      | true ↦ λ same. subst P (sym (turn_there t m n input outs j s)) (here (eqb-true n.0 m same))
      | false ↦ λ apart. old
    ] refl

-- the same for whatever journal, where the turn may have any event
pub part_any : (P : List Turn → Type 0) (m : ℕ) (n : ModuleId) (input : Input) (outs : List Output) (j : Journal)
    → ((event : Event) → P (turn_of event outs ∷ part m j)) → P (part m j) → P (part m (Step n input outs ∷ j))
part_any P m n input outs j here old =
    elim (eqb n.0 m) as (λ b. P (cond b (with_turn (event_of j input) outs (part m j)) (part m j))) [
      | true ↦ elim (event_of j input) as (λ o. P (with_turn o outs (part m j))) [ None ↦ old | Some event ↦ here event ]
      | false ↦ old
    ]

-- what came or was given still is
pub older : (P : Turn → Type 0) (m : ℕ) (e : Entry) (j : Journal) → SomeTurn P (part m j) → SomeTurn P (part m (e ∷ j))
older P m (Step n input outs) j h = part_any (SomeTurn P) m n input outs j (λ event. inr h) h
older P m (Lost frame) j h = h

pub heavier : (w : Output → ℕ) (m : ℕ) (e : Entry) (j : Journal) → weight w (part m j) ≤ weight w (part m (e ∷ j))
heavier w m (Step n input outs) j = part_any (λ turns. weight w (part m j) ≤ weight w turns) m n input outs j (λ event. omega arith) (omega arith)
heavier w m (Lost frame) j = omega arith

-- a turn in a part is an entry, with an older journal below
pub some_here : (P : Turn → Type 0) (t : Plan) (m : ℕ) (n : ModuleId) (input : Input) (outs : List Output) (j : Journal) (s : IsStepAt t j n.0 input outs)
    → SomeTurn P (part m (Step n input outs ∷ j)) → ((n.0 ≡ m) × P (turn_of s.event outs)) ⊎ SomeTurn P (part m j)
some_here P t m n input outs j s =
    part_step (λ turns. SomeTurn P turns → ((n.0 ≡ m) × P (turn_of s.event outs)) ⊎ SomeTurn P (part m j)) t m n input outs j s
    (λ same h. elim h [ inl p ↦ inl (same, p) | inr p ↦ inr p ])
    (λ h. inr h)

pub some_map : (P Q : Turn → Type 0) → ((turn : Turn) → P turn → Q turn) → (turns : List Turn) → SomeTurn P turns → SomeTurn Q turns
some_map P Q f [] h = absurd h
some_map P Q f (turn ∷ turns) (inl h) = inl (f turn h)
some_map P Q f (turn ∷ turns) (inr h) = inr (some_map P Q f turns h)

-- ---- a run is a history of each module

pub same_module : (t : Plan) (m n : ℕ) (c d : ModuleSettings) → n ≡ m → IsModule t n c → IsModule t m d → c ≡ d
same_module t m n c d same a b = let both : Some c ≡ Some d = sym a ∙ ap (slice_get t.modules) same ∙ b in cc

stepped_to : (o : Option Stepped) (s new : State) (outs : List Output) → o ≡ Some (record { state = new; outputs = outs })
    → o ≡ Some (record { state = stepped o s; outputs = outs })
stepped_to o s new outs e = e ∙ ap (λ (x : State). Some (record { state = x; outputs = outs })) (sym (ap (λ x. stepped x s) e))

pub step_here : (t : Plan) (j : Journal) (m n : ℕ) (config : ModuleSettings) (input : Input) (outs : List Output) → n ≡ m
    → IsModule t m config → (s : IsStepAt t j n input outs)
    → table_step config (state_in config m j) s.event ≡ Some (record { state = next_state config (state_in config m j) s.event; outputs = outs })
step_here t j m n config input outs same is s =
    let own : s.config ≡ config = same_module t m n s.config config same s.is_module is in
    stepped_to (table_step config (state_in config m j) s.event) (state_in config m j) s.new outs
    (subst (λ (c : ModuleSettings). table_step c (state_in c m j) s.event ≡ Some (record { state = s.new; outputs = outs })) own
    (subst (λ (k : ℕ). table_step s.config (state_in s.config k j) s.event ≡ Some (record { state = s.new; outputs = outs })) same s.step))

pub run_history : (t : Plan) (j : Journal) (m : ℕ) (config : ModuleSettings) → IsRun t j → IsModule t m config → IsHistory config (part m j)
run_history t [] m config run is = tt
run_history t (Step n input outs ∷ j) m config run is =
    let old : IsHistory config (part m j) = run_history t j m config run.0 is in
    part_step (IsHistory config) t m n input outs j run.1 (λ same. (old, step_here t j m n.0 config input outs same is run.1)) old
run_history t (Lost frame ∷ j) m config run is = run_history t j m config run.0 is
