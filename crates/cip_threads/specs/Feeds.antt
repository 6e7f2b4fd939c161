-- What modules are given from outside.
use Rattle.std.specs.Prelude.{ℕ, ◌+◌, ◌*◌, List, [], ◌∷◌, ◌++◌, ◌==◌, if◌then◌else◌}
use Rattle.cip_base.specs.declared.numbers.ModuleId.{ModuleId}
use Rattle.cip_event.specs.declared.event.Event.{Event}
use Rattle.cip_event.specs.declared.event.Event.TheVariants as events
use Rattle.cip_world.specs.declared.journal.Input.{Input}
use Rattle.cip_world.specs.declared.journal.Input.TheVariants as inputs
use Rattle.cip_world.specs.declared.journal.Entry.TheVariants.{Step, Lost}
use Rattle.cip_world.specs.Journals.{Journal}
use Rattle.cip_threads.specs.declared.feed.Feed.{Feed}
use Rattle.cip_threads.specs.declared.feed.Feed.TheVariants.{Command, Tick}

abbrev pub input_of : Feed → Input
input_of (Command command) = inputs.Command command
input_of (Tick ms) = inputs.Tick ms

abbrev pub event_of : Feed → Event
event_of (Command command) = events.Command command
event_of (Tick ms) = events.Tick ms

abbrev pub fed_if : ℕ → ModuleId × Feed → List Feed → List Feed
fed_if m given more = if given.0.0 == m then given.1 ∷ more else more

-- those for module m
abbrev pub feeds_of : ℕ → List (ModuleId × Feed) → List Feed
feeds_of m [] = []
feeds_of m (given ∷ more) = fed_if m given (feeds_of m more)

abbrev pub fed_by : Input → List Feed
fed_by (inputs.Command command) = Command command ∷ []
fed_by (inputs.Tick ms) = Tick ms ∷ []
fed_by (inputs.Frame port from name) = []

-- the commands and ticks among the entries of module m, oldest first
abbrev pub fed : ℕ → Journal → List Feed
fed m [] = []
fed m (Step n input outputs ∷ j) = if n.0 == m then fed m j ++ fed_by input else fed m j
fed m (Lost frame ∷ j) = fed m j

abbrev pub time_of : Feed → ℕ
time_of (Command command) = 0
time_of (Tick ms) = 1000 * ms

-- the microseconds of all ticks among these
abbrev pub ticks_of : List Feed → ℕ
ticks_of [] = 0
ticks_of (feed ∷ feeds) = time_of feed + ticks_of feeds
