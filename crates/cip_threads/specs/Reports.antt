-- What a report says, and what a fault of a run of threads says.
use Rattle.std.specs.Prelude.{◌≡◌, ◌<◌, ◌≤◌, ◌+◌, ◌^◌, ℕ, List, ◌++◌, Some, length, slice_get}
use Rattle.cip_base.specs.declared.numbers.ModuleId.{ModuleId}
use Rattle.cip_config.specs.declared.config.ModuleSettings.{ModuleSettings}
use Rattle.cip_routing.specs.declared.tables.Tables.{Tables}
use Rattle.cip_laws.specs.Histories.{IsHistory}
use Rattle.cip_routing.specs.State.{State}
use Rattle.cip_routing.specs.Views.{ShowsState}
use Rattle.cip_chassis.specs.Plan.{Plan}
use Rattle.cip_world.specs.declared.fresh.NewFault.{NewFault}
use Rattle.cip_world.specs.declared.fresh.NewFault.TheVariants as news
use Rattle.cip_event.specs.declared.frame.FrameName.{FrameName}
use Rattle.cip_world.specs.declared.world.End.{End}
use Rattle.cip_world.specs.Fresh.{AreFresh, IsNewFault}
use Rattle.cip_world.specs.Journals.{Journal, part}
use Rattle.cip_world.specs.Runs.{IsModule, IsRun, state_in}
use Rattle.cip_world.specs.Waiting.{waiting}
use Rattle.cip_threads.specs.declared.feed.Feed.{Feed}
use Rattle.cip_threads.specs.declared.report.RunFault.{RunFault}
use Rattle.cip_threads.specs.declared.report.RunFault.TheVariants as faults
use Rattle.cip_threads.specs.Ends.{IsEnd}
use Rattle.cip_threads.specs.Feeds.{feeds_of, fed, ticks_of}
use Rattle.cip_threads.specs.Flows.{HasNoLoss}

-- what module m did in the journal is a history of it, and these are the tables after it
pub record Agrees (config : ModuleSettings) (j : Journal) (m : ℕ) (tables : Tables) : Type 0 where
  pub history : IsHistory config (part m j)
  pub shows : ShowsState (state_in config m j) tables

pub record AgreesAt (config : ModuleSettings) (j : Journal) (m : ℕ) (tables : List Tables)
    : Type 0 where
  pub found : Tables
  pub here : slice_get tables m ≡ Some found
  pub agrees : Agrees config j m found

-- the first n modules agree with the journal
pub record AgreeTo (t : Plan) (j : Journal) (tables : List Tables) (n : ℕ) : Type 0 where
  pub count : length tables ≡ n
  pub each : (m : ℕ) (config : ModuleSettings) → IsModule t m config → m < n
      → AgreesAt config j m tables

-- the tables of module m are those of its state after the journal
pub record IsShownIn (t : Plan) (j : Journal) (tables : List Tables) (m : ℕ)
    (config : ModuleSettings) : Type 0 where
  pub found : Tables
  pub here : slice_get tables m ≡ Some found
  pub shows : ShowsState (state_in config m j) found

-- The journal is a run from the first states, in which no frame was lost, and the tables are those
-- of its states; the frames are those that wait after it; the feeds of each module are those in the
-- journal, then those that wait; Quiet and Limit say the truth.
pub record IsReport (t : Plan) (given : List (ModuleId × Feed)) (turns : ℕ) (j : Journal)
    (tables : List Tables) (feeds : List (ModuleId × Feed)) (frames : List FrameName) (end : End)
    : Type 0 where
  pub run : IsRun t j
  pub lossless : HasNoLoss j
  pub count : length tables ≡ length t.modules
  pub shown : (m : ℕ) (config : ModuleSettings) → IsModule t m config
      → IsShownIn t j tables m config
  pub waits : frames ≡ waiting t j
  pub fed_all : (m : ℕ) → feeds_of m given ≡ fed m j ++ feeds_of m feeds
  pub ends : IsEnd turns j feeds frames end

-- the journal of a report of modules that were given some feeds, with so many turns
pub record IsReported (t : Plan) (j : Journal) : Type 0 where
  pub given : List (ModuleId × Feed)
  pub turns : ℕ
  pub tables : List Tables
  pub feeds : List (ModuleId × Feed)
  pub frames : List FrameName
  pub end : End
  pub report : IsReport t given turns j tables feeds frames end

-- the first clock of some module and all its ticks together pass the last time
pub record Passes (t : Plan) (given : List (ModuleId × Feed)) : Type 0 where
  pub m : ℕ
  pub config : ModuleSettings
  pub there : IsModule t m config
  pub past : 2 ^ 63 ≤ config.clock + ticks_of (feeds_of m given)

-- a fault of modules that were fresh
abbrev pub IsWorkerFault : Plan → List (ModuleId × Feed) → RunFault → Type 0
IsWorkerFault t given faults.NoMemory = Unit {0}
IsWorkerFault t given faults.NoThread = Unit {0}
IsWorkerFault t given (faults.Split m) = Unit {0}
IsWorkerFault t given (faults.Step full) = Passes t given
IsWorkerFault t given (faults.New fault) = ⊥

-- refused memory is no word on the modules
abbrev pub IsTellable : NewFault → Type 0
IsTellable news.Count = Unit {0}
IsTellable (news.Config m) = Unit {0}
IsTellable (news.NotFresh m) = Unit {0}
IsTellable news.NoMemory = ⊥

-- each answer, where it is true; New is looked at before all else
abbrev pub IsRunFault : Plan → List ModuleSettings → List State → List (ModuleId × Feed)
    → RunFault → Type 0
IsRunFault t configs states given faults.NoMemory = Unit {0}
IsRunFault t configs states given faults.NoThread = AreFresh t configs states
IsRunFault t configs states given (faults.Split m) = AreFresh t configs states
IsRunFault t configs states given (faults.Step full) =
    AreFresh t configs states × Passes t given
IsRunFault t configs states given (faults.New fault) =
    IsTellable fault × IsNewFault t configs states fault
