-- The steps of a run, by the numbers of their entries.
use Rattle.std.specs.Prelude.{◌≡◌, ℕ, List, ◌∷◌, length}
use Rattle.cip_base.specs.declared.numbers.ModuleId.{ModuleId}
use Rattle.cip_event.specs.declared.event.Output.{Output}
use Rattle.cip_routing.specs.State.{State}
use Rattle.cip_chassis.specs.Plan.{Plan}
use Rattle.cip_world.specs.declared.journal.Input.{Input}
use Rattle.cip_world.specs.declared.journal.Entry.TheVariants.{Step}
use Rattle.cip_world.specs.Journals.{Journal}
use Rattle.cip_world.specs.Mirrors.{IsOlder}
use Rattle.cip_world.specs.Runs.{IsStepAt, state_in}

-- entry k of the journal is a step of a module, at the moment when the entries before it stood
pub record StepIn (t : Plan) (j : Journal) (k : ℕ) : Type 0 where
  pub at : ModuleId
  pub input : Input
  pub outputs : List Output
  pub before : Journal
  pub is : IsOlder (Step at input outputs ∷ before) j
  pub number : length before ≡ k
  pub taken : IsStepAt t before at.0 input outputs

-- the state of the module before the step
abbrev pub state_before : {t : Plan} {j : Journal} {k : ℕ} → StepIn t j k → State
state_before s = state_in s.taken.config s.at.0 s.before
