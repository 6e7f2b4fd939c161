-- The journal that follows one more event, as a function.
use Rattle.std.specs.Prelude.{◌∷◌, Option, option_map, option_and_then, slice_get}
use Rattle.cip_base.specs.declared.numbers.ModuleId.{ModuleId}
use Rattle.cip_routing.specs.Table.{Stepped, table_step}
use Rattle.cip_chassis.specs.Plan.{Plan}
use Rattle.cip_chassis.specs.Nodes.{Way, across}
use Rattle.cip_event.specs.declared.frame.FrameName.{FrameName}
use Rattle.cip_world.specs.declared.journal.Input.{Input}
use Rattle.cip_world.specs.declared.journal.Input.TheVariants.{Frame}
use Rattle.cip_world.specs.declared.journal.Entry.TheVariants.{Step}
use Rattle.cip_world.specs.Journals.{Journal, event_of, frame_at}
use Rattle.cip_world.specs.Runs.{state_in}

abbrev pub with_step : ModuleId → Input → Journal → Stepped → Journal
with_step m input j s = Step m input s.outputs ∷ j

-- the step of module m at an input; undefined where the routing table is, and where there is no
-- module m
abbrev pub next : Plan → Journal → ModuleId → Input → Option Journal
next t j m input =
    option_and_then (λ event. option_and_then (λ config.
    option_map (with_step m input j) (table_step config (state_in config m.0 j) event))
    (slice_get t.modules m.0)) (event_of j input)

-- a frame comes in by this way
abbrev pub comes : Plan → Journal → FrameName → Way → Option Journal
comes t j f there = next t j (record { 0 = there.at }) (Frame there.port there.address f)

-- the arrival of a frame
abbrev pub delivered : Plan → Journal → FrameName → Option Journal
delivered t j f =
    option_and_then (λ x. option_and_then (comes t j f) (across t x.way)) (frame_at j f)
