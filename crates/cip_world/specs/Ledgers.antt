-- What a ledger keeps: a journal that is a run of its topology, and which frames wait.
use Rattle.std.specs.Prelude.{◌≡◌, ℕ, Bool, List, [], ◌∷◌, ◌++◌, ◌≤◌, length, drop}
use Rattle.cip_event.specs.declared.event.Output.{Output}
use Rattle.cip_chassis.specs.Plan.{Plan}
use Rattle.cip_event.specs.declared.frame.FrameName.{FrameName}
use Rattle.cip_world.specs.declared.journal.Input.{Input}
use Rattle.cip_world.specs.declared.journal.Entry.TheVariants.{Step, Lost}
use Rattle.cip_world.specs.Journals.{Journal}
use Rattle.cip_world.specs.Runs.{IsRun}
use Rattle.cip_world.specs.Waiting.{frames_of, waiting}

-- What contracts say of a ledger: its topology, its journal, and whether it is ready for one more
-- entry.
pub record Told : Type 0 where
  pub plan : Plan
  pub journal : Journal
  pub ready : Bool

abbrev pub newest_outputs : Journal → List Output
newest_outputs [] = []
newest_outputs (Step m input outputs ∷ j) = outputs
newest_outputs (Lost frame ∷ j) = []

-- the frames of the newest entry from output i on
abbrev pub newest_from : Plan → Journal → ℕ → List FrameName
newest_from t [] i = []
newest_from t (Step m input outputs ∷ j) i = frames_of t m.0 (length j) i (drop i outputs)
newest_from t (Lost frame ∷ j) i = []

-- The frames that wait are those that are listed, and then those of the newest entry that were not
-- looked at yet.
pub record IsLedger (t : Plan) (j : Journal) (listed : List FrameName) (looked : ℕ) : Type 0 where
  pub run : IsRun t j
  pub waits : waiting t j ≡ listed ++ newest_from t j looked
  pub within : looked ≤ length (newest_outputs j)

-- the newest entry is this step
pub record IsNewest (j : Journal) (k m : ℕ) (outputs : List Output) : Type 0 where
  pub before : Journal
  pub input : Input
  pub is : j ≡ Step (record { 0 = m }) input outputs ∷ before
  pub number : k ≡ length before
