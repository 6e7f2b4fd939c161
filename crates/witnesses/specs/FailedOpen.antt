-- An open that fails at the second bridge: the path goes on by a port that it lacks.
use Rattle.std.specs.Prelude.{ℕ, List, [], ◌∷◌}
use Rattle.cip_event.specs.declared.event.Command.TheVariants as commands
use Rattle.cip_event.specs.declared.event.Body.TheVariants as bodies
use Rattle.cip_event.specs.declared.event.Output.TheVariants as outputs
use Rattle.cip_world.specs.declared.journal.Input.TheVariants.{Command, Frame}
use Rattle.cip_world.specs.declared.journal.Entry.TheVariants.{Step}
use Rattle.cip_world.specs.Journals.{Journal}
use Rattle.witnesses.specs.Plans.{frame, params}

abbrev pub path : List ℕ
path = 2 ∷ 5 ∷ 1 ∷ 3 ∷ 9 ∷ 7 ∷ 32 ∷ 4 ∷ 36 ∷ 100 ∷ []

abbrev pub first_request : List ℕ
first_request = 84 ∷ 2 ∷ 32 ∷ 6 ∷ 36 ∷ 1 ∷ 7 ∷ 249 ∷ 0 ∷ 0 ∷ 0 ∷ 0 ∷ 17 ∷ 0 ∷ 0 ∷ 0 ∷ 66 ∷ 0 ∷ 1
    ∷ 1 ∷ 1 ∷ 0 ∷ 0 ∷ 0 ∷ 0 ∷ 0 ∷ 0 ∷ 0 ∷ 16 ∷ 39 ∷ 0 ∷ 0 ∷ 6 ∷ 72 ∷ 16 ∷ 39 ∷ 0 ∷ 0 ∷ 4 ∷ 72 ∷ 1
    ∷ 4 ∷ 1 ∷ 3 ∷ 9 ∷ 7 ∷ 32 ∷ 4 ∷ 36 ∷ 100 ∷ []

abbrev pub second_request : List ℕ
second_request = 84 ∷ 2 ∷ 32 ∷ 6 ∷ 36 ∷ 1 ∷ 7 ∷ 248 ∷ 0 ∷ 0 ∷ 0 ∷ 0 ∷ 33 ∷ 0 ∷ 0 ∷ 0 ∷ 66 ∷ 0 ∷ 1
    ∷ 1 ∷ 1 ∷ 0 ∷ 0 ∷ 0 ∷ 0 ∷ 0 ∷ 0 ∷ 0 ∷ 16 ∷ 39 ∷ 0 ∷ 0 ∷ 6 ∷ 72 ∷ 16 ∷ 39 ∷ 0 ∷ 0 ∷ 4 ∷ 72 ∷ 1
    ∷ 3 ∷ 9 ∷ 7 ∷ 32 ∷ 4 ∷ 36 ∷ 100 ∷ []

abbrev pub failure : List ℕ
failure = 212 ∷ 0 ∷ 1 ∷ 1 ∷ 17 ∷ 3 ∷ 66 ∷ 0 ∷ 1 ∷ 1 ∷ 1 ∷ 0 ∷ 0 ∷ 0 ∷ 3 ∷ 0 ∷ []

abbrev pub asks : Journal
asks = Step (record { 0 = 0 })
    (Command (commands.Open 1 (record { tick = 7; ticks = 250 }) path params))
    (outputs.Send 2 (5 ∷ []) (bodies.Request 1 first_request) ∷ []) ∷ []

abbrev pub goes_on : Journal
goes_on = Step (record { 0 = 1 })
    (Frame 2 (1 ∷ []) (frame 0))
    (outputs.Send 1 (3 ∷ []) (bodies.Request 1 second_request) ∷ []) ∷ asks

abbrev pub refuses : Journal
refuses = Step (record { 0 = 2 })
    (Frame 1 (0 ∷ []) (frame 1))
    (outputs.Send 1 (0 ∷ []) (bodies.Reply 1 failure) ∷ []) ∷ goes_on

abbrev pub passes : Journal
passes = Step (record { 0 = 1 })
    (Frame 1 (3 ∷ []) (frame 2))
    (outputs.Send 2 (1 ∷ []) (bodies.Reply 1 failure) ∷ []) ∷ refuses

abbrev pub ends : Journal
ends = Step (record { 0 = 0 })
    (Frame 2 (5 ∷ []) (frame 3))
    (outputs.Done 1 failure ∷ []) ∷ passes
