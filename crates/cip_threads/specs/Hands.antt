-- What the calls of the book change.
use Rattle.std.specs.Prelude.{◌≡◌, ◌≤◌, ◌<◌, ℕ, List, [], ◌∷◌, Some, None, true, false, ◌⊎◌, ◌+◌, length, set, replicate}
use Rattle.cip_base.specs.declared.numbers.ModuleId.{ModuleId}
use Rattle.cip_event.specs.declared.event.Event.{Event}
use Rattle.cip_event.specs.declared.event.Output.{Output}
use Rattle.cip_chassis.specs.Plan.{Plan}
use Rattle.cip_event.specs.declared.frame.FrameName.{FrameName}
use Rattle.cip_world.specs.declared.journal.Input.{Input}
use Rattle.cip_world.specs.declared.journal.Input.TheVariants.{Frame}
use Rattle.cip_world.specs.declared.journal.Entry.TheVariants.{Step}
use Rattle.cip_threads.specs.declared.feed.Feed.{Feed}
use Rattle.cip_threads.specs.declared.views.BookView.{BookView}
use Rattle.cip_threads.specs.declared.state.Handed.{Handed}
use Rattle.cip_threads.specs.declared.state.Handed.TheVariants.{Work, Stop, Held, NotYet}
use Rattle.cip_threads.specs.declared.state.CommitFault.{CommitFault}
use Rattle.cip_threads.specs.declared.state.CommitFault.TheVariants as faults
use Rattle.cip_threads.specs.Queues.{queue_at, enqueue, count_all}
use Rattle.cip_threads.specs.Feeds.{input_of, event_of}
use Rattle.cip_threads.specs.Flows.{Comes, sends_of}
use Rattle.cip_threads.specs.Books.{hand_at, count_hands}

-- at first nothing is in hand, and every feed waits in its module's queue
abbrev pub opened : Plan → List (ModuleId × Feed) → ℕ → BookView
opened t feeds turns =
    record {
      topology = t;
      given = feeds;
      feeds = enqueue (replicate (length t.modules) []) feeds;
      frames = replicate (length t.modules) [];
      hands = replicate (length t.modules) None;
      journal = [];
      taken = 0;
      turns = turns;
      stopped = false;
    }

-- ---- hand

-- module m has this in hand, and one more turn is taken
abbrev pub with_hand : BookView → ℕ → Input → BookView
with_hand s m input =
    record {
      topology = s.topology;
      given = s.given;
      feeds = s.feeds;
      frames = s.frames;
      hands = set s.hands m (Some input);
      journal = s.journal;
      taken = s.taken + 1;
      turns = s.turns;
      stopped = s.stopped;
    }

-- these feeds are left in the queue of module m
abbrev pub with_feeds : BookView → ℕ → List Feed → BookView
with_feeds s m rest =
    record {
      topology = s.topology;
      given = s.given;
      feeds = set s.feeds m rest;
      frames = s.frames;
      hands = s.hands;
      journal = s.journal;
      taken = s.taken;
      turns = s.turns;
      stopped = s.stopped;
    }

-- these frames are left in the queue of module m
abbrev pub with_frames : BookView → ℕ → List FrameName → BookView
with_frames s m rest =
    record {
      topology = s.topology;
      given = s.given;
      feeds = s.feeds;
      frames = set s.frames m rest;
      hands = s.hands;
      journal = s.journal;
      taken = s.taken;
      turns = s.turns;
      stopped = s.stopped;
    }

-- the first feed of the module went into its hand
pub record GaveFeed (old new : BookView) (m : ℕ) (event : Event) : Type 0 where
  pub feed : Feed
  pub rest : List Feed
  pub first : queue_at old.feeds m ≡ feed ∷ rest
  pub is : event ≡ event_of feed
  pub gives : new ≡ with_hand (with_feeds old m rest) m (input_of feed)

-- the first frame that waits for the module went into its hand
pub record GaveFrame (old new : BookView) (m : ℕ) (event : Event) : Type 0 where
  pub name : FrameName
  pub rest : List FrameName
  pub port : ℕ
  pub from : List ℕ
  pub first : queue_at old.frames m ≡ name ∷ rest
  pub comes : Comes old.topology old.journal name m port from event
  pub gives : new ≡ with_hand (with_frames old m rest) m (Frame port from name)

-- the book is not stopped, and the module is one of its own and has nothing in hand
pub record IsFree (s : BookView) (m : ℕ) : Type 0 where
  pub running : s.stopped ≡ false
  pub within : m < length s.hands
  pub free : hand_at s.hands m ≡ None

-- no feed and no frame waits for the module
pub record NothingFor (s : BookView) (m : ℕ) : Type 0 where
  pub feeds : queue_at s.feeds m ≡ []
  pub frames : queue_at s.frames m ≡ []

-- nothing waits for any module, and nothing is in hand
pub record IsQuiet (s : BookView) : Type 0 where
  pub feeds : count_all s.feeds ≡ 0
  pub frames : count_all s.frames ≡ 0
  pub idle : count_hands s.hands ≡ 0

-- a turn is left, and the module got a feed or a frame
pub record Gave (old new : BookView) (m : ℕ) (event : Event) : Type 0 where
  pub ready : IsFree old m
  pub left : old.taken < old.turns
  pub gave : GaveFeed old new m event ⊎ GaveFrame old new m event

-- why a module is told to stop
abbrev pub IsOver : BookView → ℕ → Type 0
IsOver s m =
    (s.stopped ≡ true) ⊎ ((length s.hands ≤ m)
    ⊎ (IsFree s m × ((s.turns ≤ s.taken) ⊎ (NothingFor s m × IsQuiet s))))

-- what a call of `hand` did, by its answer
abbrev pub IsHanded : BookView → BookView → ℕ → Handed → Type 0
IsHanded old new m (Work event) = Gave old new m event
IsHanded old new m Stop = (new ≡ old) × IsOver old m
IsHanded old new m Held =
    (new ≡ old) × (old.stopped ≡ false)
    × ((input : Input) × (hand_at old.hands m ≡ Some input))
IsHanded old new m NotYet =
    (new ≡ old) × IsFree old m × (old.taken < old.turns) × NothingFor old m
    × (IsQuiet old → ⊥)

-- ---- enter

-- the book after the entry of what the module had in hand: its frames go to the queues of the
-- modules that they come to
abbrev pub entered : BookView → ModuleId → Input → List Output → BookView
entered s m input outputs =
    record {
      topology = s.topology;
      given = s.given;
      feeds = s.feeds;
      frames = enqueue s.frames (sends_of s.topology m.0 (length s.journal) 0 outputs);
      hands = set s.hands m.0 None;
      journal = Step m input outputs ∷ s.journal;
      taken = s.taken;
      turns = s.turns;
      stopped = s.stopped;
    }

pub record IsEntered (old new : BookView) (m : ModuleId) (outputs : List Output) : Type 0 where
  pub input : Input
  pub held : hand_at old.hands m.0 ≡ Some input
  pub gives : new ≡ entered old m input outputs

-- a module outside the topology has nothing in hand either
abbrev pub IsNotEntered : BookView → ModuleId → CommitFault → Type 0
IsNotEntered s m faults.NoMemory = Unit {0}
IsNotEntered s m faults.NothingInHand = hand_at s.hands m.0 ≡ None

-- ---- stop

abbrev pub stopped_of : BookView → BookView
stopped_of s =
    record {
      topology = s.topology;
      given = s.given;
      feeds = s.feeds;
      frames = s.frames;
      hands = s.hands;
      journal = s.journal;
      taken = s.taken;
      turns = s.turns;
      stopped = true;
    }
