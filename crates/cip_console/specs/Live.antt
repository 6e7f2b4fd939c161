-- A script that modules on threads of their own play: what it gives to them, and what is written.
use Rattle.std.specs.Prelude.{◌≡◌, ◌⊎◌, ℕ, ◌+◌, List, [], ◌∷◌, ◌++◌, Option, Result, Ok, Err}
use Rattle.std.specs.Prelude.{IfSome, codes, length, nat_lt, if◌then◌else◌, reverse}
use Rattle.std.specs.Io.KnownBytes.{Keeps, Appends}
use Rattle.cip_base.specs.declared.numbers.ModuleId.{ModuleId}
use Rattle.cip_routing.specs.declared.tables.Tables.{Tables}
use Rattle.cip_chassis.specs.Plan.{Plan}
use Rattle.cip_world.specs.declared.journal.Entry.{Entry}
use Rattle.cip_event.specs.declared.frame.FrameName.{FrameName}
use Rattle.cip_world.specs.declared.world.End.{End}
use Rattle.cip_world.specs.declared.world.End.TheVariants.{Quiet, Limit}
use Rattle.cip_threads.specs.declared.feed.Feed.{Feed}
use Rattle.cip_threads.specs.declared.feed.Feed.TheVariants as feeds
use Rattle.cip_threads.specs.declared.report.RunFault.{RunFault}
use Rattle.cip_threads.specs.declared.report.RunFault.TheVariants as run_faults
use Rattle.cip_threads.specs.Reports.{IsReport, Passes}
use Rattle.cip_console.specs.declared.fault.ConsoleFault.{ConsoleFault}
use Rattle.cip_console.specs.declared.fault.ConsoleFault.TheVariants.{Script, Read, Write}
use Rattle.cip_console.specs.declared.fault.ConsoleFault.TheVariants.{NoMemory, New, Run}
use Rattle.cip_script.specs.declared.steps.Mode.TheVariants.{OnThreads}
use Rattle.cip_script.specs.declared.steps.Numbered.{Numbered}
use Rattle.cip_script.specs.declared.steps.ScriptFault.{ScriptFault}
use Rattle.cip_script.specs.declared.steps.ScriptFault.TheVariants.{NoModule, NotWithThreads}
use Rattle.cip_script.specs.declared.steps.Step.{Step}
use Rattle.cip_script.specs.declared.steps.Step.TheVariants as steps
use Rattle.cip_script.specs.declared.steps.StepsFault.{StepsFault}
use Rattle.cip_console.specs.Known.{AppendsFront}
use Rattle.cip_transcript.specs.Show.{entry_text, names_of}
use Rattle.cip_script.specs.Steps.{StepsFail, steps as steps_of}

-- ---- what a script gives

-- a command or a tick, to a module
abbrev pub Fed : Type 0
Fed = ModuleId × Feed

abbrev pub Feeds : Type 0
Feeds = Result (List Fed) (ℕ × ScriptFault)

-- to one of so many modules
abbrev pub feed_for : ℕ → ℕ → ModuleId → Feed → Result Fed (ℕ × ScriptFault)
feed_for modules line m feed = if nat_lt m.0 modules then Ok (m, feed) else Err (line, NoModule)

abbrev pub feed_of : ℕ → ℕ → Step → Result Fed (ℕ × ScriptFault)
feed_of modules line (steps.Feed m command) = feed_for modules line m (feeds.Command command)
feed_of modules line (steps.Tick m by) = feed_for modules line m (feeds.Tick by)
feed_of modules line (steps.Deliver frame) = Err (line, NotWithThreads)
feed_of modules line (steps.Lose frame) = Err (line, NotWithThreads)
feed_of modules line (steps.Run limit) = Err (line, NotWithThreads)
feed_of modules line (steps.Tables m) = Err (line, NotWithThreads)
feed_of modules line (steps.Trail m op) = Err (line, NotWithThreads)
feed_of modules line (steps.Chain m op) = Err (line, NotWithThreads)

abbrev pub with_feed : Result Fed (ℕ × ScriptFault) → Feeds → Feeds
with_feed (Err fault) rest = Err fault
with_feed (Ok fed) (Err fault) = Err fault
with_feed (Ok fed) (Ok more) = Ok (fed ∷ more)

abbrev pub feeds_of : ℕ → List Numbered → Feeds
feeds_of modules [] = Ok []
feeds_of modules (numbered ∷ more) =
    with_feed (feed_of modules numbered.line numbered.step) (feeds_of modules more)

abbrev pub feeds_of_all : ℕ → Result (List Numbered) (ℕ × ScriptFault) → Feeds
feeds_of_all modules (Err first) = Err first
feeds_of_all modules (Ok steps) = feeds_of modules steps

-- what a script gives to the modules, in its order, or its first faulty line
abbrev pub given_by : Plan → List ℕ → Feeds
given_by t script = feeds_of_all (length t.modules) (steps_of OnThreads (names_of t) script)

-- what a function returned is this, unless memory ran out
abbrev pub GivesFeeds : {X Y : Type 0} → (X → Y) → Result X StepsFault
    → Result Y (ℕ × ScriptFault) → Type 0
GivesFeeds view (Ok x) read = read ≡ Ok (view x)
GivesFeeds view (Err fault) read = StepsFail fault read

-- ---- what is written

-- the text of entries, the oldest first, of which the first has this number
abbrev pub entries_text : List (List ℕ) → ℕ → List Entry → List ℕ
entries_text names k [] = []
entries_text names k (entry ∷ more) = entry_text names k entry ++ entries_text names (k + 1) more

abbrev pub last_text : End → List ℕ
last_text Quiet = codes "quiet\n"
last_text Limit = codes "limit\n"

abbrev pub live_text : Plan → List Entry → End → List ℕ
live_text t entries end = entries_text (names_of t) 0 entries ++ last_text end

-- this is the text of a run of the modules that were given these feeds
pub record HasRun (t : Plan) (turns : ℕ) (given : List Fed) (text : List ℕ) : Type 0 where
  pub entries : List Entry
  pub tables : List Tables
  pub left : List Fed
  pub frames : List FrameName
  pub end : End
  pub report : IsReport t given turns (reverse entries) tables left frames end
  pub text_is : text ≡ live_text t entries end

-- all of the text of such a run was written
pub record Whole (t : Plan) (turns : ℕ) (given : List Fed) (old new : Option (List ℕ)) : Type 0
  where
    pub text : List ℕ
    pub run : HasRun t turns given text
    pub wrote : Appends old new text

-- a prefix of the text of such a run was written
pub record Begun (t : Plan) (turns : ℕ) (given : List Fed) (old new : Option (List ℕ)) : Type 0
  where
    pub text : List ℕ
    pub run : HasRun t turns given text
    pub wrote : AppendsFront old new text

abbrev pub Done : Plan → ℕ → Option (List ℕ) → Option (List ℕ) → Feeds → Type 0
Done t turns old new (Err first) = ⊥
Done t turns old new (Ok given) = Whole t turns given old new

-- nothing is faulty in the script, and a prefix of a run was written
abbrev pub Cut : Plan → ℕ → Option (List ℕ) → Option (List ℕ) → Feeds → Type 0
Cut t turns old new (Err first) = ⊥
Cut t turns old new (Ok given) = Begun t turns given old new

-- nothing was written, or a prefix of a run
abbrev pub Front : Plan → ℕ → Option (List ℕ) → Option (List ℕ) → Feeds → Type 0
Front t turns old new (Err first) = Keeps old new
Front t turns old new (Ok given) = Keeps old new ⊎ Begun t turns given old new

-- a fault of a run: a full clock only where the ticks of a module pass its last time
abbrev pub RunFails : Plan → List Fed → RunFault → Type 0
RunFails t given run_faults.NoMemory = ⊥
RunFails t given run_faults.NoThread = Unit {0}
RunFails t given (run_faults.Split m) = Unit {0}
RunFails t given (run_faults.Step full) = Passes t given
RunFails t given (run_faults.New fault) = ⊥

-- nothing is faulty in the script, and nothing was written
abbrev pub NotBegun : Option (List ℕ) → Option (List ℕ) → Feeds → (List Fed → Type 0) → Type 0
NotBegun old new (Err first) why = ⊥
NotBegun old new (Ok given) why = Keeps old new × why given

-- what was written of a script, by the answer
abbrev pub WroteLive : Plan → ℕ → Option (List ℕ) → Option (List ℕ) → Feeds
    → Result (Unit {0}) ConsoleFault → Type 0
WroteLive t turns old new given (Ok u) = Done t turns old new given
WroteLive t turns old new given (Err (Script line fault)) =
    (given ≡ Err (line, fault)) × Keeps old new
WroteLive t turns old new given (Err Read) = Keeps old new
WroteLive t turns old new given (Err Write) = Cut t turns old new given
WroteLive t turns old new given (Err NoMemory) = Front t turns old new given
WroteLive t turns old new given (Err (New fault)) = NotBegun old new given (λ all. Unit {0})
WroteLive t turns old new given (Err (Run fault)) =
    NotBegun old new given (λ all. RunFails t all fault)

-- the same of the script that was read: all that the reader had left, where that is known
pub record WroteLiveOf (t : Plan) (turns : ℕ) (left : Option (List ℕ))
    (old new : Option (List ℕ)) (result : Result (Unit {0}) ConsoleFault) : Type 0 where
  pub script : List ℕ
  pub read : IfSome left (λ bytes. script ≡ bytes)
  pub wrote : WroteLive t turns old new (given_by t script) result
