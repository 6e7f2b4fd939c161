-- A run with an open, a datum that is lost, one that comes to its end, and a tick.
use Rattle.std.specs.Prelude.{ℕ, List, [], ◌∷◌}
use Rattle.cip_event.specs.declared.event.Command.TheVariants as commands
use Rattle.cip_event.specs.declared.event.Body.TheVariants as bodies
use Rattle.cip_event.specs.declared.event.Output.TheVariants as outputs
use Rattle.cip_world.specs.declared.journal.Input.TheVariants.{Command, Tick, Frame}
use Rattle.cip_world.specs.declared.journal.Entry.TheVariants.{Step, Lost}
use Rattle.witnesses.specs.Plans.{triad, params, frame}
use Rattle.cip_world.specs.Journals.{Journal}

abbrev pub open_sent : List ℕ
open_sent = 84 ∷ 2 ∷ 32 ∷ 6 ∷ 36 ∷ 1 ∷ 7 ∷ 249 ∷ 0 ∷ 0 ∷ 0 ∷ 0 ∷ 17 ∷ 0 ∷ 0 ∷ 0 ∷ 66 ∷ 0 ∷ 1 ∷ 1
    ∷ 1 ∷ 0 ∷ 0 ∷ 0 ∷ 0 ∷ 0 ∷ 0 ∷ 0 ∷ 16 ∷ 39 ∷ 0 ∷ 0 ∷ 6 ∷ 72 ∷ 16 ∷ 39 ∷ 0 ∷ 0 ∷ 4 ∷ 72 ∷ 1 ∷ 4
    ∷ 32 ∷ 4 ∷ 36 ∷ 100 ∷ 44 ∷ 101 ∷ 44 ∷ 102 ∷ []

abbrev pub success : List ℕ
success = 212 ∷ 0 ∷ 0 ∷ 0 ∷ 65 ∷ 0 ∷ 0 ∷ 0 ∷ 17 ∷ 0 ∷ 0 ∷ 0 ∷ 66 ∷ 0 ∷ 1 ∷ 1 ∷ 1 ∷ 0 ∷ 0 ∷ 0 ∷ 16
    ∷ 39 ∷ 0 ∷ 0 ∷ 16 ∷ 39 ∷ 0 ∷ 0 ∷ 0 ∷ 0 ∷ []

abbrev pub ticked : Journal
ticked = Step (record { 0 = 1 }) (Tick 1) [] ∷ []

abbrev pub begins : Journal
begins = Step (record { 0 = 0 })
    (Command (commands.Open 1 (record { tick = 7; ticks = 250 }) (2 ∷ 7 ∷ 32 ∷ 4 ∷ 36 ∷ 100 ∷ 44
    ∷ 101 ∷ 44 ∷ 102 ∷ []) params))
    (outputs.Send 2 (7 ∷ []) (bodies.Request 1 open_sent) ∷ []) ∷ ticked

abbrev pub ends_there : Journal
ends_there = Step (record { 0 = 1 })
    (Frame 2 (1 ∷ []) (frame 1))
    (outputs.Send 2 (1 ∷ []) (bodies.Reply 1 success) ∷ []) ∷ begins

abbrev pub stands : Journal
stands = Step (record { 0 = 0 })
    (Frame 2 (7 ∷ []) (frame 2))
    (outputs.Done 1 success ∷ []) ∷ ends_there

abbrev pub first_datum : List ℕ
first_datum = 1 ∷ 0 ∷ 170 ∷ 187 ∷ 204 ∷ 221 ∷ []

abbrev pub second_datum : List ℕ
second_datum = 2 ∷ 0 ∷ 17 ∷ 34 ∷ 51 ∷ 68 ∷ []

abbrev pub entered : Journal
entered = Step (record { 0 = 0 })
    (Command (commands.Enter 1 first_datum))
    (outputs.Send 2 (7 ∷ []) (bodies.Data 65 first_datum) ∷ []) ∷ stands

abbrev pub lost : Journal
lost = Lost (frame 4) ∷ entered

abbrev pub entered_again : Journal
entered_again = Step (record { 0 = 0 })
    (Command (commands.Enter 1 second_datum))
    (outputs.Send 2 (7 ∷ []) (bodies.Data 65 second_datum) ∷ []) ∷ lost

abbrev pub taken : Journal
taken = Step (record { 0 = 1 })
    (Frame 2 (1 ∷ []) (frame 6))
    (outputs.Consumed triad 101 second_datum ∷ []) ∷ entered_again
