-- A bridge that is reset, and a connection that is opened through it then: a datum goes down it and
-- another comes up. In the end the scanner resets itself, and so the op that opened ends.
use Rattle.std.specs.Prelude.{ℕ, List, [], ◌∷◌}
use Rattle.cip_event.specs.declared.event.Command.TheVariants as commands
use Rattle.cip_event.specs.declared.event.Body.TheVariants as bodies
use Rattle.cip_event.specs.declared.event.Output.TheVariants as outputs
use Rattle.cip_world.specs.declared.journal.Input.TheVariants.{Command, Frame}
use Rattle.cip_world.specs.declared.journal.Entry.TheVariants.{Step}
use Rattle.cip_world.specs.Journals.{Journal}
use Rattle.witnesses.specs.Plans.{triad, params, frame}
use Rattle.witnesses.specs.ChainedRun.{first_request, third_request, first_success, datum, path}
use Rattle.witnesses.specs.ResetRun.{reset, done}

-- of the bridge, whose ids and numbers are of incarnation 1
abbrev pub second_request : List ℕ
second_request = 84 ∷ 2 ∷ 32 ∷ 6 ∷ 36 ∷ 1 ∷ 7 ∷ 248 ∷ 0 ∷ 0 ∷ 0 ∷ 0 ∷ 1 ∷ 0 ∷ 1 ∷ 0 ∷ 66 ∷ 0 ∷ 1
    ∷ 1 ∷ 1 ∷ 0 ∷ 0 ∷ 0 ∷ 0 ∷ 0 ∷ 0 ∷ 0 ∷ 16 ∷ 39 ∷ 0 ∷ 0 ∷ 6 ∷ 72 ∷ 16 ∷ 39 ∷ 0 ∷ 0 ∷ 4 ∷ 72 ∷ 1
    ∷ 5 ∷ 2 ∷ 7 ∷ 32 ∷ 4 ∷ 36 ∷ 100 ∷ 44 ∷ 101 ∷ 44 ∷ 102 ∷ []

abbrev pub second_success : List ℕ
second_success = 212 ∷ 0 ∷ 0 ∷ 0 ∷ 50 ∷ 0 ∷ 0 ∷ 0 ∷ 1 ∷ 0 ∷ 1 ∷ 0 ∷ 66 ∷ 0 ∷ 1 ∷ 1 ∷ 1 ∷ 0 ∷ 0
    ∷ 0 ∷ 16 ∷ 39 ∷ 0 ∷ 0 ∷ 16 ∷ 39 ∷ 0 ∷ 0 ∷ 0 ∷ 0 ∷ []

abbrev pub third_success : List ℕ
third_success = 212 ∷ 0 ∷ 0 ∷ 0 ∷ 2 ∷ 0 ∷ 1 ∷ 0 ∷ 17 ∷ 0 ∷ 0 ∷ 0 ∷ 66 ∷ 0 ∷ 1 ∷ 1 ∷ 1 ∷ 0 ∷ 0
    ∷ 0 ∷ 16 ∷ 39 ∷ 0 ∷ 0 ∷ 16 ∷ 39 ∷ 0 ∷ 0 ∷ 0 ∷ 0 ∷ []

abbrev pub sends : Journal
sends = Step (record { 0 = 0 })
    (Command (commands.Send 1 (record { tick = 7; ticks = 250 }) (2 ∷ 5 ∷ []) reset))
    (outputs.Send 2 (5 ∷ []) (bodies.Request 1 reset) ∷ []) ∷ []

abbrev pub resets : Journal
resets = Step (record { 0 = 1 })
    (Frame 2 (1 ∷ []) (frame 0))
    (outputs.Send 2 (1 ∷ []) (bodies.Reply 1 done) ∷ []) ∷ sends

abbrev pub is_told : Journal
is_told = Step (record { 0 = 0 })
    (Frame 2 (5 ∷ []) (frame 1))
    (outputs.Done 1 done ∷ []) ∷ resets

abbrev pub opens : Journal
opens = Step (record { 0 = 0 })
    (Command (commands.Open 2 (record { tick = 7; ticks = 250 }) path params))
    (outputs.Send 2 (5 ∷ []) (bodies.Request 2 first_request) ∷ []) ∷ is_told

abbrev pub at_first : Journal
at_first = Step (record { 0 = 1 })
    (Frame 2 (1 ∷ []) (frame 3))
    (outputs.Send 1 (3 ∷ []) (bodies.Request 65537 second_request) ∷ []) ∷ opens

abbrev pub at_second : Journal
at_second = Step (record { 0 = 2 })
    (Frame 1 (0 ∷ []) (frame 4))
    (outputs.Send 2 (7 ∷ []) (bodies.Request 1 third_request) ∷ []) ∷ at_first

abbrev pub ends_there : Journal
ends_there = Step (record { 0 = 3 })
    (Frame 2 (1 ∷ []) (frame 5))
    (outputs.Send 2 (1 ∷ []) (bodies.Reply 1 first_success) ∷ []) ∷ at_second

abbrev pub back_at_second : Journal
back_at_second = Step (record { 0 = 2 })
    (Frame 2 (7 ∷ []) (frame 6))
    (outputs.Send 1 (0 ∷ []) (bodies.Reply 65537 second_success) ∷ []) ∷ ends_there

abbrev pub back_at_first : Journal
back_at_first = Step (record { 0 = 1 })
    (Frame 1 (3 ∷ []) (frame 7))
    (outputs.Send 2 (1 ∷ []) (bodies.Reply 2 third_success) ∷ []) ∷ back_at_second

abbrev pub stands : Journal
stands = Step (record { 0 = 0 })
    (Frame 2 (5 ∷ []) (frame 8))
    (outputs.Done 2 third_success ∷ []) ∷ back_at_first

abbrev pub entered : Journal
entered = Step (record { 0 = 0 })
    (Command (commands.Enter 2 datum))
    (outputs.Send 2 (5 ∷ []) (bodies.Data 65538 datum) ∷ []) ∷ stands

abbrev pub down_at_first : Journal
down_at_first = Step (record { 0 = 1 })
    (Frame 2 (1 ∷ []) (frame 10))
    (outputs.Send 1 (3 ∷ []) (bodies.Data 50 datum) ∷ []) ∷ entered

abbrev pub down_at_second : Journal
down_at_second = Step (record { 0 = 2 })
    (Frame 1 (0 ∷ []) (frame 11))
    (outputs.Send 2 (7 ∷ []) (bodies.Data 65 datum) ∷ []) ∷ down_at_first

abbrev pub taken : Journal
taken = Step (record { 0 = 3 })
    (Frame 2 (1 ∷ []) (frame 12))
    (outputs.Consumed triad 101 datum ∷ []) ∷ down_at_second

abbrev pub written : Journal
written = Step (record { 0 = 3 })
    (Command (commands.Set 102 (17 ∷ 34 ∷ [])))
    [] ∷ taken

abbrev pub produced : Journal
produced = Step (record { 0 = 3 })
    (Command (commands.Produce 102))
    (outputs.Send 2 (1 ∷ []) (bodies.Data 49 (1 ∷ 0 ∷ 17 ∷ 34 ∷ [])) ∷ []) ∷ written

abbrev pub up_at_second : Journal
up_at_second = Step (record { 0 = 2 })
    (Frame 2 (7 ∷ []) (frame 15))
    (outputs.Send 1 (0 ∷ []) (bodies.Data 65537 (1 ∷ 0 ∷ 17 ∷ 34 ∷ [])) ∷ []) ∷ produced

abbrev pub up_at_first : Journal
up_at_first = Step (record { 0 = 1 })
    (Frame 1 (3 ∷ []) (frame 16))
    (outputs.Send 2 (1 ∷ []) (bodies.Data 17 (1 ∷ 0 ∷ 17 ∷ 34 ∷ [])) ∷ []) ∷ up_at_second

abbrev pub arrived : Journal
arrived = Step (record { 0 = 0 })
    (Frame 2 (5 ∷ []) (frame 17))
    (outputs.Arrived 2 (1 ∷ 0 ∷ 17 ∷ 34 ∷ []) ∷ []) ∷ up_at_first

abbrev pub ends : Journal
ends = Step (record { 0 = 0 })
    (Command (commands.Send 3 (record { tick = 7; ticks = 250 }) [] reset))
    (outputs.Done 3 done ∷ outputs.Ended 2 ∷ []) ∷ arrived
