-- Journals without a word of the routing table: each entry is a step of a module that was given a
-- command, a tick or a frame that waited, whatever it did.
use Rattle.std.specs.Prelude.{◌≡◌, ℕ, ◌<◌, ◌+◌, List, [], ◌∷◌, Some, None, Option, Bool, false, ◌==◌, length}
use Rattle.cip_base.specs.declared.numbers.ModuleId.{ModuleId}
use Rattle.cip_event.specs.declared.event.Event.{Event}
use Rattle.cip_event.specs.declared.event.Event.TheVariants as events
use Rattle.cip_event.specs.declared.event.Output.{Output}
use Rattle.cip_chassis.specs.Plan.{Plan}
use Rattle.cip_chassis.specs.Nodes.{Way, across}
use Rattle.cip_event.specs.declared.frame.FrameName.{FrameName}
use Rattle.cip_world.specs.declared.journal.Input.{Input}
use Rattle.cip_world.specs.declared.journal.Entry.TheVariants.{Step, Lost}
use Rattle.cip_world.specs.Journals.{Journal, Flight, flight_of, frame_at}
use Rattle.cip_world.specs.Runs.{IsGiven}

-- the module may be given this now
pub record IsOpenTo (t : Plan) (j : Journal) (m : ℕ) (input : Input) : Type 0 where
  pub event : Event
  pub given : IsGiven t j m input event

abbrev pub IsFlow : Plan → Journal → Type 0
IsFlow t [] = Unit {0}
IsFlow t (Step m input outputs ∷ j) =
    IsFlow t j × (m.0 < length t.modules) × IsOpenTo t j m.0 input
IsFlow t (Lost frame ∷ j) = ⊥

-- no frame was lost
abbrev pub HasNoLoss : Journal → Type 0
HasNoLoss [] = Unit {0}
HasNoLoss (Step m input outputs ∷ j) = HasNoLoss j
HasNoLoss (Lost frame ∷ j) = ⊥

-- ---- where a frame of a journal comes

abbrev pub way_of : Plan → Option Flight → Option Way
way_of t None = None
way_of t (Some flight) = across t flight.way

abbrev pub is_into : ℕ → Option Way → Bool
is_into m None = false
is_into m (Some there) = there.at == m

-- the frame comes to module m
abbrev pub goes_to : Plan → Journal → ℕ → FrameName → Bool
goes_to t j m f = is_into m (way_of t (frame_at j f))

abbrev pub sent_if : Option Way → FrameName → List (ModuleId × FrameName)
    → List (ModuleId × FrameName)
sent_if None f more = more
sent_if (Some there) f more = (record { 0 = there.at }, f) ∷ more

-- the frames that arrive somewhere among these outputs of module m in entry k, each with the
-- module that it comes to; the first of the outputs has place i
abbrev pub sends_of : Plan → ℕ → ℕ → ℕ → List Output → List (ModuleId × FrameName)
sends_of t m k i [] = []
sends_of t m k i (output ∷ outputs) =
    sent_if (way_of t (flight_of m (Some output))) (record { entry = k; output = i })
    (sends_of t m k (i + 1) outputs)

-- the frame comes to module m, by a port and from an address, as this event
pub record Comes (t : Plan) (j : Journal) (f : FrameName) (m port : ℕ) (from : List ℕ)
    (event : Event) : Type 0 where
  pub flight : Flight
  pub sent : frame_at j f ≡ Some flight
  pub leads : across t flight.way ≡ Some (record { at = m; port = port; address = from })
  pub event_is : event ≡ events.Frame port from flight.body
