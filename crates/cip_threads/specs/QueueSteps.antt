-- What the code does with queues.
use Rattle.std.specs.Prelude.{◌≡◌, ◌≤◌, ◌<◌, ℕ, ◌+◌, List, [], ◌∷◌, ◌++◌, Bool, true, Some, drop, filter, length, slice_get}
use Rattle.std.specs.List.{AllByRecursion}
use Rattle.cip_base.specs.declared.numbers.ModuleId.{ModuleId}
use Rattle.cip_event.specs.declared.frame.FrameName.{FrameName}
use Rattle.cip_world.specs.Names.{name_cmp, AreRising}
use Rattle.std.specs.declared.cmp.Ordering.TheVariants.{Less}
use Rattle.cip_threads.specs.declared.feed.Feed.{Feed}
use Rattle.cip_threads.specs.Feeds.{feeds_of}
use Rattle.cip_threads.specs.Queues.{queue_at, count_all}

-- ---- room

-- the queue of module m has room for n more
abbrev pub HasRoom : {Q : Type 0} → (Q → ℕ) → List Q → ℕ → ℕ → Type 0
HasRoom {Q} room queues m n = (q : Q) → slice_get queues m ≡ Some q → n ≤ room q

-- each of these has n places in its module's queue
abbrev pub HaveRoom : {Q X : Type 0} → (Q → ℕ) → List Q → ℕ → List (ModuleId × X) → Type 0
HaveRoom room queues n = AllByRecursion (λ x. HasRoom room queues x.0.0 n)

-- ---- feeds poured out

-- feeds went from the queues to the end of a list, those of each module in their order
pub record Moved (old new : List (List Feed)) (from to : List (ModuleId × Feed)) : Type 0 where
  pub same : (m : ℕ) → feeds_of m to ++ queue_at new m ≡ feeds_of m from ++ queue_at old m
  pub empty : (m : ℕ) → queue_at old m ≡ [] → queue_at new m ≡ []
  pub count : length new ≡ length old
  pub size : length to + count_all new ≡ length from + count_all old

-- ---- frames merged

-- the queue of module m has f in front, and of the first n queues none has a lesser name there
pub record IsLeast (queues : List (List FrameName)) (n m : ℕ) (f : FrameName) : Type 0 where
  pub within : m < length queues
  pub here : queue_at queues m ≡ f ∷ drop 1 (queue_at queues m)
  pub least : (k : ℕ) (g : FrameName) (gs : List FrameName) → k < n
      → queue_at queues k ≡ g ∷ gs → name_cmp g f ≡ Less → ⊥

-- each of these rising names is in one queue, which has its own in their order
pub record AreSplit (own : ℕ → FrameName → Bool) (queues : List (List FrameName))
    (names : List FrameName) : Type 0 where
  pub rising : AreRising names
  pub split : (m : ℕ) → queue_at queues m ≡ filter (own m) names
  pub somewhere : AllByRecursion (λ f. (m : ℕ) × (own m f ≡ true)) names
  pub apart : (f : FrameName) (m n : ℕ) → own m f ≡ true → own n f ≡ true → m ≡ n
