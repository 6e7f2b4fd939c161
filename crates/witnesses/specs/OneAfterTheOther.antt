-- Two connections of one triad, one after the other: the datum of the first, which comes late, is
-- no datum of the second.
use Rattle.std.specs.Prelude.{ℕ, List, [], ◌∷◌}
use Rattle.cip_event.specs.declared.event.Command.TheVariants as commands
use Rattle.cip_event.specs.declared.event.Body.TheVariants as bodies
use Rattle.cip_event.specs.declared.event.Output.TheVariants as outputs
use Rattle.cip_event.specs.declared.event.Dropped.TheVariants.{UnknownId}
use Rattle.cip_world.specs.declared.journal.Input.TheVariants.{Command, Frame}
use Rattle.cip_world.specs.declared.journal.Entry.TheVariants.{Step}
use Rattle.cip_world.specs.Journals.{Journal}
use Rattle.witnesses.specs.Plans.{triad, frame, params}

abbrev pub first_request : List ℕ
first_request = 84 ∷ 2 ∷ 32 ∷ 6 ∷ 36 ∷ 1 ∷ 7 ∷ 249 ∷ 0 ∷ 0 ∷ 0 ∷ 0 ∷ 17 ∷ 0 ∷ 0 ∷ 0 ∷ 66 ∷ 0 ∷ 1
    ∷ 1 ∷ 1 ∷ 0 ∷ 0 ∷ 0 ∷ 0 ∷ 0 ∷ 0 ∷ 0 ∷ 16 ∷ 39 ∷ 0 ∷ 0 ∷ 6 ∷ 72 ∷ 16 ∷ 39 ∷ 0 ∷ 0 ∷ 4 ∷ 72 ∷ 1
    ∷ 4 ∷ 32 ∷ 4 ∷ 36 ∷ 100 ∷ 44 ∷ 101 ∷ 44 ∷ 102 ∷ []

abbrev pub first_success : List ℕ
first_success = 212 ∷ 0 ∷ 0 ∷ 0 ∷ 65 ∷ 0 ∷ 0 ∷ 0 ∷ 17 ∷ 0 ∷ 0 ∷ 0 ∷ 66 ∷ 0 ∷ 1 ∷ 1 ∷ 1 ∷ 0 ∷ 0
    ∷ 0 ∷ 16 ∷ 39 ∷ 0 ∷ 0 ∷ 16 ∷ 39 ∷ 0 ∷ 0 ∷ 0 ∷ 0 ∷ []

abbrev pub first_datum : List ℕ
first_datum = 1 ∷ 0 ∷ 170 ∷ 187 ∷ 204 ∷ 221 ∷ []

abbrev pub close_request : List ℕ
close_request = 78 ∷ 2 ∷ 32 ∷ 6 ∷ 36 ∷ 1 ∷ 7 ∷ 249 ∷ 66 ∷ 0 ∷ 1 ∷ 1 ∷ 1 ∷ 0 ∷ 0 ∷ 0 ∷ 4 ∷ 0 ∷ 32
    ∷ 4 ∷ 36 ∷ 100 ∷ 44 ∷ 101 ∷ 44 ∷ 102 ∷ []

abbrev pub close_success : List ℕ
close_success = 206 ∷ 0 ∷ 0 ∷ 0 ∷ 66 ∷ 0 ∷ 1 ∷ 1 ∷ 1 ∷ 0 ∷ 0 ∷ 0 ∷ 0 ∷ 0 ∷ []

abbrev pub second_request : List ℕ
second_request = 84 ∷ 2 ∷ 32 ∷ 6 ∷ 36 ∷ 1 ∷ 7 ∷ 249 ∷ 0 ∷ 0 ∷ 0 ∷ 0 ∷ 18 ∷ 0 ∷ 0 ∷ 0 ∷ 66 ∷ 0 ∷ 1
    ∷ 1 ∷ 1 ∷ 0 ∷ 0 ∷ 0 ∷ 0 ∷ 0 ∷ 0 ∷ 0 ∷ 16 ∷ 39 ∷ 0 ∷ 0 ∷ 6 ∷ 72 ∷ 16 ∷ 39 ∷ 0 ∷ 0 ∷ 4 ∷ 72 ∷ 1
    ∷ 4 ∷ 32 ∷ 4 ∷ 36 ∷ 100 ∷ 44 ∷ 101 ∷ 44 ∷ 102 ∷ []

abbrev pub second_success : List ℕ
second_success = 212 ∷ 0 ∷ 0 ∷ 0 ∷ 66 ∷ 0 ∷ 0 ∷ 0 ∷ 18 ∷ 0 ∷ 0 ∷ 0 ∷ 66 ∷ 0 ∷ 1 ∷ 1 ∷ 1 ∷ 0 ∷ 0
    ∷ 0 ∷ 16 ∷ 39 ∷ 0 ∷ 0 ∷ 16 ∷ 39 ∷ 0 ∷ 0 ∷ 0 ∷ 0 ∷ []

abbrev pub second_datum : List ℕ
second_datum = 1 ∷ 0 ∷ 17 ∷ 34 ∷ 51 ∷ 68 ∷ []

abbrev pub path : List ℕ
path = 2 ∷ 7 ∷ 32 ∷ 4 ∷ 36 ∷ 100 ∷ 44 ∷ 101 ∷ 44 ∷ 102 ∷ []

abbrev pub opens : Journal
opens = Step (record { 0 = 0 })
    (Command (commands.Open 1 (record { tick = 7; ticks = 250 }) path params))
    (outputs.Send 2 (7 ∷ []) (bodies.Request 1 first_request) ∷ []) ∷ []

abbrev pub accepted : Journal
accepted = Step (record { 0 = 1 })
    (Frame 2 (1 ∷ []) (frame 0))
    (outputs.Send 2 (1 ∷ []) (bodies.Reply 1 first_success) ∷ []) ∷ opens

abbrev pub stands : Journal
stands = Step (record { 0 = 0 })
    (Frame 2 (7 ∷ []) (frame 1))
    (outputs.Done 1 first_success ∷ []) ∷ accepted

abbrev pub entered : Journal
entered = Step (record { 0 = 0 })
    (Command (commands.Enter 1 first_datum))
    (outputs.Send 2 (7 ∷ []) (bodies.Data 65 first_datum) ∷ []) ∷ stands

abbrev pub asked_to_close : Journal
asked_to_close = Step (record { 0 = 0 })
    (Command (commands.Close 2 1 (record { tick = 7; ticks = 250 })))
    (outputs.Send 2 (7 ∷ []) (bodies.Request 2 close_request) ∷ []) ∷ entered

abbrev pub closed : Journal
closed = Step (record { 0 = 1 })
    (Frame 2 (1 ∷ []) (frame 4))
    (outputs.Send 2 (1 ∷ []) (bodies.Reply 2 close_success) ∷ []) ∷ asked_to_close

abbrev pub closed_here : Journal
closed_here = Step (record { 0 = 0 })
    (Frame 2 (7 ∷ []) (frame 5))
    (outputs.Done 2 close_success ∷ []) ∷ closed

abbrev pub opens_again : Journal
opens_again = Step (record { 0 = 0 })
    (Command (commands.Open 3 (record { tick = 7; ticks = 250 }) path params))
    (outputs.Send 2 (7 ∷ []) (bodies.Request 3 second_request) ∷ []) ∷ closed_here

abbrev pub accepted_again : Journal
accepted_again = Step (record { 0 = 1 })
    (Frame 2 (1 ∷ []) (frame 7))
    (outputs.Send 2 (1 ∷ []) (bodies.Reply 3 second_success) ∷ []) ∷ opens_again

abbrev pub stands_again : Journal
stands_again = Step (record { 0 = 0 })
    (Frame 2 (7 ∷ []) (frame 8))
    (outputs.Done 3 second_success ∷ []) ∷ accepted_again

abbrev pub dropped : Journal
dropped = Step (record { 0 = 1 })
    (Frame 2 (1 ∷ []) (frame 3))
    (outputs.Dropped UnknownId ∷ []) ∷ stands_again

abbrev pub entered_again : Journal
entered_again = Step (record { 0 = 0 })
    (Command (commands.Enter 3 second_datum))
    (outputs.Send 2 (7 ∷ []) (bodies.Data 66 second_datum) ∷ []) ∷ dropped

abbrev pub taken : Journal
taken = Step (record { 0 = 1 })
    (Frame 2 (1 ∷ []) (frame 11))
    (outputs.Consumed triad 101 second_datum ∷ []) ∷ entered_again
