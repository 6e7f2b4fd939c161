-- A bridge that is reset under an open connection, and used again.
use Rattle.std.specs.Prelude.{[], ◌∷◌}
use Rattle.cip_event.specs.declared.event.Command.TheVariants as commands
use Rattle.cip_event.specs.declared.event.Body.TheVariants as bodies
use Rattle.cip_event.specs.declared.event.Output.TheVariants as outputs
use Rattle.cip_event.specs.declared.event.Dropped.TheVariants.{UnknownId}
use Rattle.witnesses.specs.Plans.{frame}
use Rattle.witnesses.specs.ChainedRun.{stands, datum}
use Rattle.witnesses.specs.LateReply.{asked, sent_on, answer}
use Rattle.witnesses.specs.ResetRun.{reset, done}
use Rattle.cip_world.specs.declared.journal.Input.TheVariants.{Command, Frame}
use Rattle.cip_world.specs.declared.journal.Entry.{Entry}
use Rattle.cip_world.specs.declared.journal.Entry.TheVariants.{Step}
use Rattle.cip_world.specs.Journals.{Journal}

abbrev pub sends : Journal
sends = Step (record { 0 = 0 })
    (Command (commands.Send 2 (record { tick = 7; ticks = 250 }) (2 ∷ 5 ∷ []) reset))
    (outputs.Send 2 (5 ∷ []) (bodies.Request 2 reset) ∷ []) ∷ stands

abbrev pub resetting : Entry
resetting = Step (record { 0 = 1 })
    (Frame 2 (1 ∷ []) (frame 7))
    (outputs.Send 2 (1 ∷ []) (bodies.Reply 2 done) ∷ [])

abbrev pub resets : Journal
resets = resetting ∷ sends

abbrev pub is_told : Journal
is_told = Step (record { 0 = 0 })
    (Frame 2 (5 ∷ []) (frame 8))
    (outputs.Done 2 done ∷ []) ∷ resets

abbrev pub enters : Journal
enters = Step (record { 0 = 0 })
    (Command (commands.Enter 1 datum))
    (outputs.Send 2 (5 ∷ []) (bodies.Data 34 datum) ∷ []) ∷ is_told

abbrev pub is_unknown : Journal
is_unknown = Step (record { 0 = 1 })
    (Frame 2 (1 ∷ []) (frame 10))
    (outputs.Dropped UnknownId ∷ []) ∷ enters

abbrev pub asks : Journal
asks = Step (record { 0 = 0 })
    (Command (commands.Send 3 (record { tick = 0; ticks = 5 }) (2 ∷ 5 ∷ 1 ∷ 3 ∷ []) asked))
    (outputs.Send 2 (5 ∷ []) (bodies.Request 3 sent_on) ∷ []) ∷ is_unknown

abbrev pub goes_on : Journal
goes_on = Step (record { 0 = 1 })
    (Frame 2 (1 ∷ []) (frame 12))
    (outputs.Send 1 (3 ∷ []) (bodies.Request 65537 asked) ∷ []) ∷ asks

abbrev pub answers : Journal
answers = Step (record { 0 = 2 })
    (Frame 1 (0 ∷ []) (frame 13))
    (outputs.Send 1 (0 ∷ []) (bodies.Reply 65537 answer) ∷ []) ∷ goes_on

abbrev pub passes : Journal
passes = Step (record { 0 = 1 })
    (Frame 1 (3 ∷ []) (frame 14))
    (outputs.Send 2 (1 ∷ []) (bodies.Reply 3 answer) ∷ []) ∷ answers

abbrev pub is_answered : Journal
is_answered = Step (record { 0 = 0 })
    (Frame 2 (5 ∷ []) (frame 15))
    (outputs.Done 3 answer ∷ []) ∷ passes
