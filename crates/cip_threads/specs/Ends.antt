-- What a finished book leaves.
use Rattle.std.specs.Prelude.{◌≡◌, ◌<◌, ◌≤◌, ℕ, List, [], ◌++◌, ◌+◌, length}
use Rattle.cip_base.specs.declared.numbers.ModuleId.{ModuleId}
use Rattle.cip_chassis.specs.Plan.{Plan}
use Rattle.cip_event.specs.declared.frame.FrameName.{FrameName}
use Rattle.cip_world.specs.declared.world.End.{End}
use Rattle.cip_world.specs.declared.world.End.TheVariants.{Quiet, Limit}
use Rattle.cip_world.specs.Journals.{Journal}
use Rattle.cip_world.specs.Waiting.{waiting}
use Rattle.cip_threads.specs.declared.feed.Feed.{Feed}
use Rattle.cip_threads.specs.Feeds.{feeds_of, fed}
use Rattle.cip_threads.specs.Flows.{IsFlow}
use Rattle.cip_threads.specs.Queues.{count_all}
use Rattle.cip_threads.specs.declared.views.BookView.{BookView}

-- Quiet only where nothing waits; Limit only where something waits and the journal has all turns
abbrev pub IsEnd : ℕ → Journal → List (ModuleId × Feed) → List FrameName → End → Type 0
IsEnd turns j feeds frames Quiet = (feeds ≡ []) × (frames ≡ [])
IsEnd turns j feeds frames Limit =
    (0 < length feeds + length frames) × (length j ≡ turns)

pub record IsFinished (t : Plan) (given : List (ModuleId × Feed)) (turns : ℕ) (j : Journal)
    (feeds : List (ModuleId × Feed)) (frames : List FrameName) (end : End) : Type 0 where
  pub flow : IsFlow t j
  pub waits : frames ≡ waiting t j
  pub fed_all : (m : ℕ) → feeds_of m given ≡ fed m j ++ feeds_of m feeds
  pub ends : IsEnd turns j feeds frames end

-- the same of a book's queues
abbrev pub MayEnd : BookView → End → Type 0
MayEnd s Quiet = (count_all s.feeds ≡ 0) × (count_all s.frames ≡ 0)
MayEnd s Limit = (0 < count_all s.feeds + count_all s.frames) × (s.turns ≤ s.taken)
