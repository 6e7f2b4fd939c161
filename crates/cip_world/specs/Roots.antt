-- From an entry of a journal back to the entry that it all began with.
use Rattle.std.specs.Prelude.{ℕ, [], ◌∷◌, Option, Some, None, ◌==◌, if◌then◌else◌, length}
use Rattle.cip_world.specs.declared.journal.Entry.{Entry}
use Rattle.cip_world.specs.declared.journal.Entry.TheVariants.{Step, Lost}
use Rattle.cip_event.specs.declared.frame.FrameName.{FrameName}
use Rattle.cip_world.specs.Journals.{Journal, brought_by}

-- the root of entry k, which brought that frame or none; `older` gives those of the entries before
abbrev pub root_from : (ℕ → Option ℕ) → ℕ → Option FrameName → Option ℕ
root_from older k None = Some k
root_from older k (Some frame) = older frame.entry

abbrev pub root_here : (ℕ → Option ℕ) → ℕ → Entry → Option ℕ
root_here older k (Step m input outputs) = root_from older k (brought_by input)
root_here older k (Lost frame) = None

-- The root of entry k: a command or a tick is its own; a frame that arrived has the root of the
-- entry before that sent it; a loss and what is no entry have none.
abbrev pub root_of : Journal → ℕ → Option ℕ
root_of [] k = None
root_of (e ∷ j) k = if k == length j then root_here (root_of j) k e else root_of j k
