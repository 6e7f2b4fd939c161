-- Entries of a run by their numbers: which of them is a turn of a module, and which sent a frame.
use Rattle.std.proofs.Common.{◌≡◌, ℕ, ◌≤◌, List, [], ◌∷◌, Some, refl, sym, ap, subst, ◌∙◌, ◌⊎◌, inl, inr, arith, length}
use Rattle.std.specs.Prelude.{slice_get}
use Rattle.cip_base.specs.declared.numbers.ModuleId.{ModuleId}
use Rattle.cip_event.specs.declared.event.Output.{Output}
use Rattle.cip_laws.specs.Births.{Past}
use Rattle.cip_laws.specs.Histories.{Turn, state_after, IsHistory}
use Rattle.cip_laws.proofs.Turns.{Turned, newest}
use Rattle.cip_chassis.specs.Plan.{Plan}
use Rattle.cip_world.specs.declared.journal.Entry.{Entry}
use Rattle.cip_world.specs.declared.journal.Entry.TheVariants.{Step, Lost}
use Rattle.cip_event.specs.declared.frame.FrameName.{FrameName}
use Rattle.cip_world.specs.declared.journal.Input.{Input}
use Rattle.cip_world.specs.Journals.{Journal, Flight, frame_at, part}
use Rattle.cip_world.specs.Mirrors.{IsOlder}
use Rattle.cip_world.specs.Runs.{IsStepAt, IsRun}
use Rattle.cip_world.specs.StepsIn.{StepIn, state_before}
use Rattle.cip_world.proofs.Frames.{out_of}
use Rattle.cip_world.proofs.Moments.{run_older, older_trans, older_length, sent_at}
use Rattle.cip_world.proofs.Parts.{turn_of, part_step, step_here, run_history}

-- ---- an entry is one

abbrev pub step_of : (t : Plan) (j before : Journal) (at : ModuleId) (input : Input) (outs : List Output) → IsRun t j → IsOlder (Step at input outs ∷ before) j
    → StepIn t j (length before)
step_of t j before at input outs run older = record {
  at = at;
  input = input;
  outputs = outs;
  before = before;
  is = older;
  number = refl;
  taken = (run_older t (Step at input outs ∷ before) j older run).1;
}

-- a step of an older moment
abbrev pub step_older : (t : Plan) (x j : Journal) (k : ℕ) → IsOlder x j → StepIn t x k → StepIn t j k
step_older t x j k older s = record {
  at = s.at;
  input = s.input;
  outputs = s.outputs;
  before = s.before;
  is = older_trans (Step s.at s.input s.outputs ∷ s.before) x j s.is older;
  number = s.number;
  taken = s.taken;
}

pub one_moment : (k l j : Journal) → IsOlder k j → IsOlder l j → length k ≡ length l → k ≡ l
one_moment k l [] a b same = a ∙ sym b
one_moment k l (e ∷ j) (inl a) (inl b) same = a ∙ sym b
one_moment k l (e ∷ j) (inl a) (inr b) same =
    let less = older_length l j b in let long = ap (λ (x : Journal). length x) a in absurd (omega (arith, less, long, same))
one_moment k l (e ∷ j) (inr a) (inl b) same =
    let less = older_length k j a in let long = ap (λ (x : Journal). length x) b in absurd (omega (arith, less, long, same))
one_moment k l (e ∷ j) (inr a) (inr b) same = one_moment k l j a b same

-- of two moments one is older than the other
pub older_one : (k l j : Journal) → IsOlder k j → IsOlder l j → length k ≤ length l → IsOlder k l
older_one k l [] a b less = subst (λ (x : Journal). IsOlder k x) (sym b) a
older_one k l (e ∷ j) a (inl b) less = subst (λ (x : Journal). IsOlder k x) (sym b) a
older_one k l (e ∷ j) (inl a) (inr b) less =
    let more = older_length l j b in let long = ap (λ (x : Journal). length x) a in absurd (omega (arith, less, long, more))
older_one k l (e ∷ j) (inr a) (inr b) less = older_one k l j a b less

-- ---- the turn of an entry

-- a turn of module m that a property has, as an entry of the journal
pub record TurnIn (P : List Turn → Turn → Type 0) (t : Plan) (j : Journal) (m : ℕ) : Type 0 where
  pub number : ℕ
  pub step : StepIn t j number
  pub here : step.at.0 ≡ m
  pub has : P (part m step.before) (turn_of step.taken.event step.outputs)

past_here : (P : List Turn → Turn → Type 0) (t : Plan) (m : ℕ) (n : ModuleId) (input : Input) (outs : List Output) (j : Journal)
    (s : IsStepAt t j n.0 input outs)
    → Past P (part m (Step n input outs ∷ j)) → ((n.0 ≡ m) × P (part m j) (turn_of s.event outs)) ⊎ Past P (part m j)
past_here P t m n input outs j s =
    part_step (λ turns. Past P turns → ((n.0 ≡ m) × P (part m j) (turn_of s.event outs)) ⊎ Past P (part m j)) t m n input outs j s
    (λ same h. elim h [ inl p ↦ inl (same, p) | inr p ↦ inr p ])
    (λ h. inr h)

turn_older : (P : List Turn → Turn → Type 0) (t : Plan) (e : Entry) (j : Journal) (m : ℕ) → IsOlder j (e ∷ j) → TurnIn P t j m → TurnIn P t (e ∷ j) m
turn_older P t e j m older h = record { number = h.number; step = step_older t j (e ∷ j) h.number older h.step; here = h.here; has = h.has }

itself : (j : Journal) → IsOlder j j
itself [] = refl
itself (e ∷ j) = inl refl

pub turn_in : (P : List Turn → Turn → Type 0) (t : Plan) (j : Journal) (m : ℕ) → IsRun t j → Past P (part m j) → TurnIn P t j m
turn_in P t [] m run h = absurd h
turn_in P t (Step n input outs ∷ j) m run h =
    elim (past_here P t m n input outs j run.1 h) [
      | inl now ↦ record {
        number = length j;
        step = record { at = n; input = input; outputs = outs; before = j; is = inl refl; number = refl; taken = run.1 };
        here = now.0;
        has = now.1;
      }
      | inr old ↦ turn_older P t (Step n input outs) j m (inr (itself j)) (turn_in P t j m run.0 old)
    ]
turn_in P t (Lost frame ∷ j) m run h = turn_older P t (Lost frame) j m (inr (itself j)) (turn_in P t j m run.0 h)

-- ---- the entry of a frame

-- the step that sent a frame
pub record SentBy (t : Plan) (j : Journal) (f : FrameName) (x : Flight) : Type 0 where
  pub step : StepIn t j f.entry
  pub here : step.at.0 ≡ x.way.at
  pub place : slice_get step.outputs f.output ≡ Some (out_of x)

pub sent_by : (t : Plan) (j : Journal) (f : FrameName) (x : Flight) → IsRun t j → frame_at j f ≡ Some x → SentBy t j f x
sent_by t j f x run h =
    let s = sent_at j f x h in
    record {
      step = record {
        at = s.at;
        input = s.input;
        outputs = s.outs;
        before = s.before;
        is = s.older;
        number = s.number;
        taken = (run_older t (Step s.at s.input s.outs ∷ s.before) j s.older run).1;
      };
      here = s.at_is;
      place = s.place;
    }

-- ---- what a step does

module _ (t : Plan) (j : Journal) (k : ℕ) (run : IsRun t j) (s : StepIn t j k) where
  pub run_before : IsRun t s.before
  run_before = (run_older t (Step s.at s.input s.outputs ∷ s.before) j s.is run).0

  pub history_before : IsHistory s.taken.config (part s.at.0 s.before)
  history_before = run_history t s.before s.at.0 s.taken.config run_before s.taken.is_module

  pub history_with : IsHistory s.taken.config (turn_of s.taken.event s.outputs ∷ part s.at.0 s.before)
  history_with = (history_before, step_here t s.before s.at.0 s.at.0 s.taken.config s.input s.outputs refl s.taken.is_module s.taken)

  pub turned_in : Turned s.taken.config (state_before s) s.taken.event
      (state_after s.taken.config (turn_of s.taken.event s.outputs ∷ part s.at.0 s.before)) s.outputs
  turned_in = newest s.taken.config (turn_of s.taken.event s.outputs) (part s.at.0 s.before) history_with
