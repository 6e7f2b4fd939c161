-- What a run adds is what the function of the next journal gives.
use Rattle.std.proofs.Common.{◌≡◌, ℕ, List, ◌∷◌, Option, Some, None, refl, ap, ◌∙◌}
use Rattle.std.specs.Prelude.{option_map, option_and_then, slice_get}
use Rattle.cip_base.specs.declared.numbers.ModuleId.{ModuleId}
use Rattle.cip_config.specs.declared.config.ModuleSettings.{ModuleSettings}
use Rattle.cip_event.specs.declared.event.Event.{Event}
use Rattle.cip_event.specs.declared.event.Output.{Output}
use Rattle.cip_routing.specs.Table.{Stepped, table_step}
use Rattle.cip_chassis.specs.Plan.{Plan}
use Rattle.cip_chassis.specs.Nodes.{across as goes}
use Rattle.cip_event.specs.declared.frame.FrameName.{FrameName}
use Rattle.cip_world.specs.declared.journal.Input.{Input}
use Rattle.cip_world.specs.declared.journal.Input.TheVariants.{Frame}
use Rattle.cip_world.specs.declared.journal.Entry.TheVariants.{Step}
use Rattle.cip_world.specs.Journals.{Journal, Flight, event_of}
use Rattle.cip_world.specs.Nexts.{with_step, next, comes, delivered}
use Rattle.cip_world.specs.Runs.{IsModule, state_in, IsStepAt}
use Rattle.cip_world.specs.Worlds.{HasNoStep}
use Rattle.cip_world.proofs.Parts.{given_event}

step_next : (t : Plan) (j : Journal) (m : ModuleId) (input : Input) (event : Event) (config : ModuleSettings) (o : Option Stepped)
    → event_of j input ≡ Some event → IsModule t m.0 config
    → table_step config (state_in config m.0 j) event ≡ o → next t j m input ≡ option_map (with_step m input j) o
step_next t j m input event config o given is step =
    ap (option_and_then (λ e. option_and_then (λ c. option_map (with_step m input j) (table_step c (state_in c m.0 j) e)) (slice_get t.modules m.0))) given
    ∙ ap (option_and_then (λ c. option_map (with_step m input j) (table_step c (state_in c m.0 j) event))) is
    ∙ ap (option_map (with_step m input j)) step

-- a step of a run
pub step_is_next : (t : Plan) (j : Journal) (m : ModuleId) (input : Input) (outs : List Output) → IsStepAt t j m.0 input outs
    → next t j m input ≡ Some (Step m input outs ∷ j)
step_is_next t j m input outs s =
    step_next t j m input s.event s.config (Some (record { state = s.new; outputs = outs })) (given_event t j m.0 input s.event s.given) s.is_module s.step

-- where the table has no step there is no next journal
pub no_next : (t : Plan) (j : Journal) (m : ModuleId) (input : Input) (event : Event) → event_of j input ≡ Some event
    → HasNoStep t j m.0 event → next t j m input ≡ None
no_next t j m input event given none = step_next t j m input event none.config None given none.is_module none.none

-- nor where there is no such module
pub no_module_next : (t : Plan) (j : Journal) (m : ModuleId) (input : Input) → slice_get t.modules m.0 ≡ None → next t j m input ≡ None
no_module_next t j m input none = by (event_of j input)
  where
    by : (o : Option Event) → option_and_then
        (λ e. option_and_then (λ c. option_map (with_step m input j) (table_step c (state_in c m.0 j) e)) (slice_get t.modules m.0)) o ≡ None
    by None = refl
    by (Some e) = ap (option_and_then (λ c. option_map (with_step m input j) (table_step c (state_in c m.0 j) e))) none

-- an arrival of a run
pub arrival_is_delivered : (t : Plan) (j : Journal) (m : ModuleId) (port : ℕ) (from : List ℕ) (f : FrameName) (outs : List Output)
    → IsStepAt t j m.0 (Frame port from f) outs
    → delivered t j f ≡ Some (Step m (Frame port from f) outs ∷ j)
arrival_is_delivered t j m port from f outs s =
    let a = s.given in
    ap (option_and_then (λ (x : Flight). option_and_then (comes t j f) (goes t x.way))) a.waits.sent
    ∙ ap (option_and_then (comes t j f)) a.waits.leads
    ∙ ap (comes t j f) a.here
    ∙ step_is_next t j m (Frame port from f) outs s
