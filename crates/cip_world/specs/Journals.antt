-- Journals: what happened, the newest entry first. Entries are numbered from 0, the oldest.
use Rattle.std.specs.Prelude.{ℕ, List, [], ◌∷◌, Option, Some, None, Bool, false, ◌&&◌, ◌||◌, ◌==◌, if◌then◌else◌, length, slice_get}
use Rattle.cip_event.specs.declared.event.Body.{Body}
use Rattle.cip_event.specs.declared.event.Event.{Event}
use Rattle.cip_event.specs.declared.event.Event.TheVariants as events
use Rattle.cip_event.specs.declared.event.Output.{Output}
use Rattle.cip_event.specs.declared.event.Output.TheVariants as outputs
use Rattle.cip_laws.specs.Histories.{Turn}
use Rattle.cip_chassis.specs.Nodes.{Way}
use Rattle.cip_event.specs.declared.frame.FrameName.{FrameName}
use Rattle.cip_world.specs.declared.journal.Input.{Input}
use Rattle.cip_world.specs.declared.journal.Input.TheVariants.{Command, Tick, Frame}
use Rattle.cip_world.specs.declared.journal.Entry.{Entry}
use Rattle.cip_world.specs.declared.journal.Entry.TheVariants.{Step, Lost}

abbrev pub Journal : Type 0
Journal = List Entry

-- the entry of a number
abbrev pub entry_at : Journal → ℕ → Option Entry
entry_at [] k = None
entry_at (e ∷ j) k = if k == length j then Some e else entry_at j k

-- ---- frames

-- a frame that left a module, and by which way
pub record Flight : Type 0 where
  pub way : Way
  pub body : Body

abbrev pub flight_of : ℕ → Option Output → Option Flight
flight_of m None = None
flight_of m (Some (outputs.Send port to body)) =
    Some (record { way = record { at = m; port = port; address = to }; body = body })
flight_of m (Some (outputs.Done op reply)) = None
flight_of m (Some (outputs.Refused fault)) = None
flight_of m (Some (outputs.Consumed triad instance bytes)) = None
flight_of m (Some (outputs.Arrived op bytes)) = None
flight_of m (Some (outputs.Expired triad)) = None
flight_of m (Some (outputs.Ended op)) = None
flight_of m (Some (outputs.Dropped reason)) = None

abbrev pub sent_by : Option Entry → ℕ → Option Flight
sent_by None i = None
sent_by (Some (Step m input outputs)) i = flight_of m.0 (slice_get outputs i)
sent_by (Some (Lost frame)) i = None

-- the frame of a name
abbrev pub frame_at : Journal → FrameName → Option Flight
frame_at j f = sent_by (entry_at j f.entry) f.output

abbrev pub same_name : FrameName → FrameName → Bool
same_name f g = f.entry == g.entry && f.output == g.output

abbrev pub brought_by : Input → Option FrameName
brought_by (Command command) = None
brought_by (Tick ms) = None
brought_by (Frame port from name) = Some name

-- the frame that an entry names: it arrived then, or was lost
abbrev pub named_by : Entry → Option FrameName
named_by (Step m input outputs) = brought_by input
named_by (Lost frame) = Some frame

abbrev pub is_that : FrameName → Option FrameName → Bool
is_that f None = false
is_that f (Some g) = same_name f g

abbrev pub names : FrameName → Entry → Bool
names f e = is_that f (named_by e)

abbrev pub is_named : Journal → FrameName → Bool
is_named [] f = false
is_named (e ∷ j) f = names f e || is_named j f

-- ---- what one module did

-- the event of a frame that came in by this port from this address
abbrev pub arrival : ℕ → List ℕ → Option Flight → Option Event
arrival port from None = None
arrival port from (Some flight) = Some (events.Frame port from flight.body)

-- the event that an input was, in a journal that has the frames
abbrev pub event_of : Journal → Input → Option Event
event_of j (Command command) = Some (events.Command command)
event_of j (Tick ms) = Some (events.Tick ms)
event_of j (Frame port from name) = arrival port from (frame_at j name)

abbrev pub with_turn : Option Event → List Output → List Turn → List Turn
with_turn None outs turns = turns
with_turn (Some event) outs turns = record { event = event; outputs = outs } ∷ turns

-- the turns of a module, the newest first
abbrev pub part : ℕ → Journal → List Turn
part m [] = []
part m (Step n input outputs ∷ j) =
    if n.0 == m then with_turn (event_of j input) outputs (part m j) else part m j
part m (Lost frame ∷ j) = part m j
