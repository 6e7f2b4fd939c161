-- A module that resets itself while an open of its own is under way, and uses its first number
-- again under the next incarnation. The reply to the open comes late.
use Rattle.std.specs.Prelude.{ℕ, List, [], ◌∷◌}
use Rattle.cip_event.specs.declared.event.Command.TheVariants as commands
use Rattle.cip_event.specs.declared.event.Body.TheVariants as bodies
use Rattle.cip_event.specs.declared.event.Output.TheVariants as outputs
use Rattle.cip_event.specs.declared.event.Dropped.TheVariants.{Late}
use Rattle.witnesses.specs.Plans.{frame, params}
use Rattle.witnesses.specs.FailedOpen.{path, first_request, second_request, failure}
use Rattle.witnesses.specs.LateReply.{asked}
use Rattle.cip_world.specs.declared.journal.Input.TheVariants.{Command, Frame}
use Rattle.cip_world.specs.declared.journal.Entry.TheVariants.{Step}
use Rattle.cip_world.specs.Journals.{Journal}

-- the Identity's service Reset, and its success
abbrev pub reset : List ℕ
reset = 5 ∷ 2 ∷ 32 ∷ 1 ∷ 36 ∷ 1 ∷ []

abbrev pub done : List ℕ
done = 133 ∷ 0 ∷ 0 ∷ 0 ∷ []

abbrev pub opens : Journal
opens = Step (record { 0 = 0 })
    (Command (commands.Open 1 (record { tick = 7; ticks = 250 }) path params))
    (outputs.Send 2 (5 ∷ []) (bodies.Request 1 first_request) ∷ []) ∷ []

abbrev pub resets : Journal
resets = Step (record { 0 = 0 })
    (Command (commands.Send 2 (record { tick = 7; ticks = 250 }) [] reset))
    (outputs.Done 2 done ∷ outputs.Ended 1 ∷ []) ∷ opens

abbrev pub asks : Journal
asks = Step (record { 0 = 0 })
    (Command (commands.Send 3 (record { tick = 7; ticks = 250 }) (2 ∷ 5 ∷ []) asked))
    (outputs.Send 2 (5 ∷ []) (bodies.Request 65537 asked) ∷ []) ∷ resets

abbrev pub goes_on : Journal
goes_on = Step (record { 0 = 1 })
    (Frame 2 (1 ∷ []) (frame 0))
    (outputs.Send 1 (3 ∷ []) (bodies.Request 1 second_request) ∷ []) ∷ asks

abbrev pub refuses : Journal
refuses = Step (record { 0 = 2 })
    (Frame 1 (0 ∷ []) (frame 3))
    (outputs.Send 1 (0 ∷ []) (bodies.Reply 1 failure) ∷ []) ∷ goes_on

abbrev pub passes : Journal
passes = Step (record { 0 = 1 })
    (Frame 1 (3 ∷ []) (frame 4))
    (outputs.Send 2 (1 ∷ []) (bodies.Reply 1 failure) ∷ []) ∷ refuses

abbrev pub comes_late : Journal
comes_late = Step (record { 0 = 0 })
    (Frame 2 (5 ∷ []) (frame 5))
    (outputs.Dropped Late ∷ []) ∷ passes
