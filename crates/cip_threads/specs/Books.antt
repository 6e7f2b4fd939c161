-- What the book keeps: feeds and frames that wait, what each module has in hand, and the journal.
use Rattle.std.specs.Prelude.{◌≡◌, ◌≤◌, ℕ, List, [], ◌∷◌, ◌++◌, Option, Some, None, Bool, false, not, ◌||◌, ◌+◌, length, get_or, filter}
use Rattle.cip_event.specs.declared.frame.FrameName.{FrameName}
use Rattle.cip_world.specs.declared.journal.Input.{Input}
use Rattle.cip_world.specs.Journals.{brought_by, is_that}
use Rattle.cip_world.specs.Waiting.{waiting}
use Rattle.cip_threads.specs.declared.feed.Feed.{Feed}
use Rattle.cip_threads.specs.declared.views.BookView.{BookView}
use Rattle.cip_threads.specs.Feeds.{feeds_of, fed, fed_by}
use Rattle.cip_threads.specs.Flows.{IsFlow, IsOpenTo, goes_to}
use Rattle.cip_threads.specs.Queues.{queue_at, count_all}

-- what module m has in hand
abbrev pub hand_at : List (Option Input) → ℕ → Option Input
hand_at hands m = get_or hands m None

-- the frame in this hand, if it is one
abbrev pub frame_in : Option Input → Option FrameName
frame_in None = None
frame_in (Some input) = brought_by input

-- the frame is in some hand
abbrev pub is_held : List (Option Input) → FrameName → Bool
is_held [] f = false
is_held (hand ∷ hands) f = is_that f (frame_in hand) || is_held hands f

abbrev pub one_if : Option Input → ℕ → ℕ
one_if None n = n
one_if (Some input) n = n + 1

abbrev pub count_hands : List (Option Input) → ℕ
count_hands [] = 0
count_hands (hand ∷ hands) = one_if hand (count_hands hands)

-- the feed in this hand, if it is one
abbrev pub fed_in : Option Input → List Feed
fed_in None = []
fed_in (Some input) = fed_by input

-- the waiting frames that are in no hand
abbrev pub unheld : BookView → List FrameName
unheld s = filter (λ f. not (is_held s.hands f)) (waiting s.topology s.journal)

-- Each event in the journal or in hand was the module's to take when it was; the queue of a module
-- has exactly the waiting frames that come to it and are in no hand, in their order; the feeds of a
-- module are those committed, then the one in hand, then its queue; entries and hands together are
-- the turns taken.
pub record IsKept (s : BookView) : Type 0 where
  pub flow : IsFlow s.topology s.journal
  pub count : length s.hands ≡ length s.topology.modules
  pub feed_queues : length s.feeds ≡ length s.topology.modules
  pub frame_queues : length s.frames ≡ length s.topology.modules
  pub frames : (m : ℕ) → queue_at s.frames m
      ≡ filter (goes_to s.topology s.journal m) (unheld s)
  pub held : (m : ℕ) (input : Input) → hand_at s.hands m ≡ Some input
      → IsOpenTo s.topology s.journal m input
  pub feeds : (m : ℕ) → feeds_of m s.given
      ≡ fed m s.journal ++ (fed_in (hand_at s.hands m) ++ queue_at s.feeds m)
  pub taken : length s.journal + count_hands s.hands ≡ s.taken
  pub turns : s.taken ≤ s.turns

-- what the book keeps, with how many feeds and how many frames wait in all
pub record IsBook (s : BookView) (feeds frames : ℕ) : Type 0 where
  pub kept : IsKept s
  pub feed_count : count_all s.feeds ≡ feeds
  pub frame_count : count_all s.frames ≡ frames
