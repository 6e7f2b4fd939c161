-- What a step of a box is in a run, and that the boxes stand as its journal has them afterwards.
use Rattle.std.proofs.Common.{◌≡◌, ◌≢◌, ℕ, zero, suc, true, false, cond, List, [], ◌∷◌, length, Option, Some, refl, sym, ap, subst, ◌∙◌, eqb, slice_get}
use Rattle.std.proofs.Common.{slice_set}
use Rattle.std.proofs.lemmas.Bool.{eqb-true, eq-eqb, ne_eqb}
use Rattle.cip_base.specs.declared.numbers.ModuleId.{ModuleId}
use Rattle.cip_config.specs.declared.config.ModuleSettings.{ModuleSettings}
use Rattle.cip_event.specs.declared.event.Event.{Event}
use Rattle.cip_event.specs.declared.event.Output.{Output}
use Rattle.cip_laws.specs.Histories.{Turn, stepped, state_after}
use Rattle.cip_routing.specs.State.{State}
use Rattle.cip_routing.specs.Table.{Stepped, table_step}
use Rattle.cip_chassis.specs.Plan.{Plan}
use Rattle.cip_world.specs.declared.journal.Input.{Input}
use Rattle.cip_world.specs.declared.journal.Entry.TheVariants.{Step, Lost}
use Rattle.cip_event.specs.declared.frame.FrameName.{FrameName}
use Rattle.cip_world.specs.Journals.{Journal, event_of, with_turn, part}
use Rattle.cip_world.specs.Ledgers.{Told}
use Rattle.cip_world.specs.Runs.{IsModule, state_in, IsGiven, IsStepAt}
use Rattle.cip_world.specs.Worlds.{AreStates, Stand, IsStepOf}
use Rattle.cip_world.proofs.Parts.{part_here}

some_same : {A : Type 0} (a b : A) → Some a ≡ Some b → a ≡ b
some_same a b e = cc

at_set_same : {A : Type 0} (xs : List A) (i : ℕ) (x y : A) → slice_get xs i ≡ Some x → slice_get (slice_set xs i y) i ≡ Some y
at_set_same [] i x y e = cc
at_set_same (z ∷ zs) zero x y e = refl
at_set_same (z ∷ zs) (suc i) x y e = at_set_same zs i x y e

at_set_other : {A : Type 0} (xs : List A) (i k : ℕ) (y : A) → k ≢ i → slice_get (slice_set xs i y) k ≡ slice_get xs k
at_set_other [] i k y n = refl
at_set_other (z ∷ zs) zero zero y n = absurd (n refl)
at_set_other (z ∷ zs) zero (suc k) y n = refl
at_set_other (z ∷ zs) (suc i) zero y n = refl
at_set_other (z ∷ zs) (suc i) (suc k) y n = at_set_other zs i k y (λ e. n (ap suc e))

length_set : {A : Type 0} (xs : List A) (i : ℕ) (y : A) → length (slice_set xs i y) ≡ length xs
length_set [] i y = refl
length_set (z ∷ zs) zero y = refl
length_set (z ∷ zs) (suc i) y = ap suc (length_set zs i y)

part_other : (m : ℕ) (n : ModuleId) (input : Input) (outs : List Output) (j : Journal) → n.0 ≢ m → part m (Step n input outs ∷ j) ≡ part m j
part_other m n input outs j apart = ap (λ b. cond b (with_turn (event_of j input) outs (part m j)) (part m j)) (ne_eqb n.0 m apart)

module _ (told : Told) (configs : List ModuleSettings) (states after : List State) (at : ModuleId) (event : Event)
    (outs : List Output) (stand : Stand told configs states)
    (s : IsStepOf configs states at.0 event after outs) where
  is_there : IsModule told.plan at.0 s.config
  is_there = subst (λ (cs : List ModuleSettings). slice_get cs at.0 ≡ Some s.config) stand.same s.at_config

  was : s.old ≡ state_in s.config at.0 told.journal
  was = some_same s.old (state_in s.config at.0 told.journal) (sym s.at_state ∙ stand.stand.each at.0 s.config is_there)

  stepped_so : table_step s.config (state_in s.config at.0 told.journal) event ≡ Some (record { state = s.new; outputs = outs })
  stepped_so = subst (λ (x : State). table_step s.config x event ≡ Some (record { state = s.new; outputs = outs })) was s.step

  pub is_step : (input : Input) → IsGiven told.plan told.journal at.0 input event → IsStepAt told.plan told.journal at.0 input outs
  is_step input given = record {
    event = event;
    given = given;
    config = s.config;
    is_module = is_there;
    new = s.new;
    step = stepped_so;
  }

  module _ (input : Input) (given : IsGiven told.plan told.journal at.0 input event) where
    abbrev j : Journal
    j = Step at input outs ∷ told.journal

    new_here : state_in s.config at.0 j ≡ s.new
    unfolding is_step
    new_here =
        ap (state_after s.config) (part_here told.plan at.0 at input outs told.journal (is_step input given) refl)
        ∙ ap (λ (o : Option Stepped). stepped o (state_in s.config at.0 told.journal)) stepped_so

    there_now : (k : ℕ) (config : ModuleSettings) → IsModule told.plan k config → slice_get (slice_set states at.0 s.new) k ≡ Some (state_in config k j)
    there_now k config is = by (eqb at.0 k) refl
      where
        by : (b : _) → eqb at.0 k ≡ b → slice_get (slice_set states at.0 s.new) k ≡ Some (state_in config k j)
        by true t =
            let same : at.0 ≡ k = eqb-true at.0 k t in
            let own : s.config ≡ config = some_same s.config config (sym is_there ∙ ap (slice_get told.plan.modules) same ∙ is) in
            subst (λ (i : ℕ). slice_get (slice_set states at.0 s.new) i ≡ Some (state_in config i j)) same
            (subst (λ (c : ModuleSettings). slice_get (slice_set states at.0 s.new) at.0 ≡ Some (state_in c at.0 j)) own
            (at_set_same states at.0 s.old s.new s.at_state ∙ ap (λ (x : State). Some x) (sym new_here)))
        by false t =
            let apart : at.0 ≢ k = λ e. let yes = eq-eqb at.0 k e in cc in
            at_set_other states at.0 k s.new (λ e. apart (sym e)) ∙ stand.stand.each k config is
            ∙ ap (λ (turns : List Turn). Some (state_after config turns)) (sym (part_other k at input outs told.journal apart))

    pub still_stand : (new : Told) (configs' : List ModuleSettings) → new.plan ≡ told.plan → new.journal ≡ j → configs' ≡ configs → Stand new configs' after
    still_stand new configs' plan journal same = record {
      same = same ∙ stand.same ∙ ap (λ (t : Plan). t.modules) (sym plan);
      stand =
          subst (λ (t : Plan). AreStates t new.journal after) (sym plan)
          (subst (λ (x : Journal). AreStates told.plan x after) (sym journal)
          (subst (λ (xs : List State). AreStates told.plan j xs) (sym s.changed)
          (record { count = length_set states at.0 s.new ∙ stand.stand.count; each = there_now })));
    }

-- a loss changes no state
pub stand_lost : (told new : Told) (configs : List ModuleSettings) (states : List State) (f : FrameName) → Stand told configs states
    → new.plan ≡ told.plan → new.journal ≡ Lost f ∷ told.journal
    → Stand new configs states
stand_lost told new configs states f stand plan journal = record {
  same = stand.same ∙ ap (λ (t : Plan). t.modules) (sym plan);
  stand =
      subst (λ (t : Plan). AreStates t new.journal states) (sym plan)
      (subst (λ (x : Journal). AreStates told.plan x states) (sym journal) (record { count = stand.stand.count; each = stand.stand.each }));
}

pub stand_same : (told new : Told) (configs : List ModuleSettings) (states : List State) → Stand told configs states
    → new.plan ≡ told.plan → new.journal ≡ told.journal → Stand new configs states
stand_same told new configs states stand plan journal = record {
  same = stand.same ∙ ap (λ (t : Plan). t.modules) (sym plan);
  stand = subst (λ (t : Plan). AreStates t new.journal states) (sym plan) (subst (λ (x : Journal). AreStates told.plan x states) (sym journal) stand.stand);
}
