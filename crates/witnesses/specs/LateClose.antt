-- A close that comes late, and takes the later connection of its triad.
use Rattle.std.specs.Prelude.{ℕ, List, [], ◌∷◌}
use Rattle.cip_event.specs.declared.event.Command.TheVariants as commands
use Rattle.cip_event.specs.declared.event.Body.TheVariants as bodies
use Rattle.cip_event.specs.declared.event.Output.TheVariants as outputs
use Rattle.cip_event.specs.declared.event.Dropped.TheVariants.{Late}
use Rattle.cip_world.specs.declared.journal.Input.TheVariants.{Command, Tick, Frame}
use Rattle.cip_world.specs.declared.journal.Entry.TheVariants.{Step}
use Rattle.cip_world.specs.Journals.{Journal}
use Rattle.witnesses.specs.Plans.{triad, frame, params}

abbrev pub first_request : List ℕ
first_request = 84 ∷ 2 ∷ 32 ∷ 6 ∷ 36 ∷ 1 ∷ 7 ∷ 249 ∷ 0 ∷ 0 ∷ 0 ∷ 0 ∷ 17 ∷ 0 ∷ 0 ∷ 0 ∷ 66 ∷ 0 ∷ 1
    ∷ 1 ∷ 1 ∷ 0 ∷ 0 ∷ 0 ∷ 0 ∷ 0 ∷ 0 ∷ 0 ∷ 16 ∷ 39 ∷ 0 ∷ 0 ∷ 6 ∷ 72 ∷ 16 ∷ 39 ∷ 0 ∷ 0 ∷ 4 ∷ 72 ∷ 1
    ∷ 4 ∷ 32 ∷ 4 ∷ 36 ∷ 100 ∷ 44 ∷ 101 ∷ 44 ∷ 102 ∷ []

abbrev pub first_success : List ℕ
first_success = 212 ∷ 0 ∷ 0 ∷ 0 ∷ 65 ∷ 0 ∷ 0 ∷ 0 ∷ 17 ∷ 0 ∷ 0 ∷ 0 ∷ 66 ∷ 0 ∷ 1 ∷ 1 ∷ 1 ∷ 0 ∷ 0
    ∷ 0 ∷ 16 ∷ 39 ∷ 0 ∷ 0 ∷ 16 ∷ 39 ∷ 0 ∷ 0 ∷ 0 ∷ 0 ∷ []

abbrev pub close_request : List ℕ
close_request = 78 ∷ 2 ∷ 32 ∷ 6 ∷ 36 ∷ 1 ∷ 7 ∷ 249 ∷ 66 ∷ 0 ∷ 1 ∷ 1 ∷ 1 ∷ 0 ∷ 0 ∷ 0 ∷ 4 ∷ 0 ∷ 32
    ∷ 4 ∷ 36 ∷ 100 ∷ 44 ∷ 101 ∷ 44 ∷ 102 ∷ []

abbrev pub given_up_reply : List ℕ
given_up_reply = 206 ∷ 0 ∷ 1 ∷ 1 ∷ 4 ∷ 2 ∷ 66 ∷ 0 ∷ 1 ∷ 1 ∷ 1 ∷ 0 ∷ 0 ∷ 0 ∷ 5 ∷ 0 ∷ []

abbrev pub second_request : List ℕ
second_request = 84 ∷ 2 ∷ 32 ∷ 6 ∷ 36 ∷ 1 ∷ 7 ∷ 249 ∷ 0 ∷ 0 ∷ 0 ∷ 0 ∷ 18 ∷ 0 ∷ 0 ∷ 0 ∷ 66 ∷ 0 ∷ 1
    ∷ 1 ∷ 1 ∷ 0 ∷ 0 ∷ 0 ∷ 0 ∷ 0 ∷ 0 ∷ 0 ∷ 16 ∷ 39 ∷ 0 ∷ 0 ∷ 6 ∷ 72 ∷ 16 ∷ 39 ∷ 0 ∷ 0 ∷ 4 ∷ 72 ∷ 1
    ∷ 4 ∷ 32 ∷ 4 ∷ 36 ∷ 100 ∷ 44 ∷ 101 ∷ 44 ∷ 102 ∷ []

abbrev pub second_success : List ℕ
second_success = 212 ∷ 0 ∷ 0 ∷ 0 ∷ 66 ∷ 0 ∷ 0 ∷ 0 ∷ 18 ∷ 0 ∷ 0 ∷ 0 ∷ 66 ∷ 0 ∷ 1 ∷ 1 ∷ 1 ∷ 0 ∷ 0
    ∷ 0 ∷ 16 ∷ 39 ∷ 0 ∷ 0 ∷ 16 ∷ 39 ∷ 0 ∷ 0 ∷ 0 ∷ 0 ∷ []

abbrev pub close_success : List ℕ
close_success = 206 ∷ 0 ∷ 0 ∷ 0 ∷ 66 ∷ 0 ∷ 1 ∷ 1 ∷ 1 ∷ 0 ∷ 0 ∷ 0 ∷ 0 ∷ 0 ∷ []

abbrev pub datum : List ℕ
datum = 1 ∷ 0 ∷ 170 ∷ 187 ∷ 204 ∷ 221 ∷ []

abbrev pub path : List ℕ
path = 2 ∷ 7 ∷ 32 ∷ 4 ∷ 36 ∷ 100 ∷ 44 ∷ 101 ∷ 44 ∷ 102 ∷ []

abbrev pub opens : Journal
opens = Step (record { 0 = 0 })
    (Command (commands.Open 1 (record { tick = 7; ticks = 250 }) path params))
    (outputs.Send 2 (7 ∷ []) (bodies.Request 1 first_request) ∷ []) ∷ []

abbrev pub accepted : Journal
accepted = Step (record { 0 = 1 })
    (Frame 2 (1 ∷ []) (frame 0))
    (outputs.Send 2 (1 ∷ []) (bodies.Reply 1 first_success) ∷ []) ∷ opens

abbrev pub stands : Journal
stands = Step (record { 0 = 0 })
    (Frame 2 (7 ∷ []) (frame 1))
    (outputs.Done 1 first_success ∷ []) ∷ accepted

abbrev pub asked_to_close : Journal
asked_to_close = Step (record { 0 = 0 })
    (Command (commands.Close 2 1 (record { tick = 7; ticks = 250 })))
    (outputs.Send 2 (7 ∷ []) (bodies.Request 2 close_request) ∷ []) ∷ stands

abbrev pub lapsed : Journal
lapsed = Step (record { 0 = 1 }) (Tick 41) (outputs.Expired triad ∷ []) ∷ asked_to_close

abbrev pub given_up : Journal
given_up = Step (record { 0 = 0 }) (Tick 32001) (outputs.Done 2 given_up_reply ∷ []) ∷ lapsed

abbrev pub opens_again : Journal
opens_again = Step (record { 0 = 0 })
    (Command (commands.Open 3 (record { tick = 7; ticks = 250 }) path params))
    (outputs.Send 2 (7 ∷ []) (bodies.Request 3 second_request) ∷ []) ∷ given_up

abbrev pub accepted_again : Journal
accepted_again = Step (record { 0 = 1 })
    (Frame 2 (1 ∷ []) (frame 6))
    (outputs.Send 2 (1 ∷ []) (bodies.Reply 3 second_success) ∷ []) ∷ opens_again

abbrev pub stands_again : Journal
stands_again = Step (record { 0 = 0 })
    (Frame 2 (7 ∷ []) (frame 7))
    (outputs.Done 3 second_success ∷ []) ∷ accepted_again

abbrev pub closed_late : Journal
closed_late = Step (record { 0 = 1 })
    (Frame 2 (1 ∷ []) (frame 3))
    (outputs.Send 2 (1 ∷ []) (bodies.Reply 2 close_success) ∷ []) ∷ stands_again

abbrev pub entered : Journal
entered = Step (record { 0 = 0 })
    (Command (commands.Enter 3 datum))
    (outputs.Send 2 (7 ∷ []) (bodies.Data 66 datum) ∷ []) ∷ closed_late

abbrev pub answered : Journal
answered = Step (record { 0 = 0 })
    (Frame 2 (7 ∷ []) (frame 9))
    (outputs.Dropped Late ∷ []) ∷ entered
