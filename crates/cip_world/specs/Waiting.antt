-- The frames that wait, as a list in rising name.
use Rattle.std.specs.Prelude.{ℕ, List, [], ◌∷◌, Option, Some, None, Bool, true, false, not, ◌+◌, ◌++◌, filter, length, is_some}
use Rattle.cip_event.specs.declared.event.Output.{Output}
use Rattle.cip_chassis.specs.Plan.{Plan}
use Rattle.cip_chassis.specs.Nodes.{across}
use Rattle.cip_event.specs.declared.frame.FrameName.{FrameName}
use Rattle.cip_world.specs.declared.journal.Entry.{Entry}
use Rattle.cip_world.specs.declared.journal.Entry.TheVariants.{Step, Lost}
use Rattle.cip_world.specs.Journals.{Journal, Flight, flight_of, is_named}

-- some module has the address that the frame goes to
abbrev pub arrives : Plan → Option Flight → Bool
arrives t None = false
arrives t (Some x) = is_some (across t x.way)

abbrev pub or_none : Bool → FrameName → List FrameName → List FrameName
or_none false f more = more
or_none true f more = f ∷ more

-- the frames that arrive somewhere among these outputs of module m in entry k; the first of the
-- outputs has place i
abbrev pub frames_of : Plan → ℕ → ℕ → ℕ → List Output → List FrameName
frames_of t m k i [] = []
frames_of t m k i (output ∷ outputs) =
    or_none (arrives t (flight_of m (Some output))) (record { entry = k; output = i })
    (frames_of t m k (i + 1) outputs)

abbrev pub frames_in : Plan → ℕ → Entry → List FrameName
frames_in t k (Step m input outputs) = frames_of t m.0 k 0 outputs
frames_in t k (Lost frame) = []

-- the frames of a journal that arrive somewhere, in rising name
abbrev pub frames : Plan → Journal → List FrameName
frames t [] = []
frames t (e ∷ j) = frames t j ++ frames_in t (length j) e

-- those of them that no entry names as arrived or lost
abbrev pub waiting : Plan → Journal → List FrameName
waiting t j = filter (λ f. not (is_named j f)) (frames t j)
