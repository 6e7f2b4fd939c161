-- A reply that comes when nothing waits for it any more.
use Rattle.std.specs.Prelude.{ℕ, List, [], ◌∷◌}
use Rattle.cip_event.specs.declared.event.Command.TheVariants as commands
use Rattle.cip_event.specs.declared.event.Body.TheVariants as bodies
use Rattle.cip_event.specs.declared.event.Output.TheVariants as outputs
use Rattle.cip_event.specs.declared.event.Dropped.TheVariants.{Late}
use Rattle.cip_world.specs.declared.journal.Input.TheVariants.{Command, Tick, Frame}
use Rattle.cip_world.specs.declared.journal.Entry.TheVariants.{Step}
use Rattle.cip_world.specs.Journals.{Journal}
use Rattle.witnesses.specs.Plans.{frame}

abbrev pub path : List ℕ
path = 2 ∷ 5 ∷ 1 ∷ 3 ∷ []

abbrev pub asked : List ℕ
asked = 1 ∷ 2 ∷ 32 ∷ 1 ∷ 36 ∷ 1 ∷ []

abbrev pub sent_on : List ℕ
sent_on = 82 ∷ 2 ∷ 32 ∷ 6 ∷ 36 ∷ 1 ∷ 0 ∷ 4 ∷ 6 ∷ 0 ∷ 1 ∷ 2 ∷ 32 ∷ 1 ∷ 36 ∷ 1 ∷ 1 ∷ 0 ∷ 1 ∷ 3 ∷ []

abbrev pub answer : List ℕ
answer = 129 ∷ 0 ∷ 0 ∷ 0 ∷ 1 ∷ 1 ∷ 12 ∷ 0 ∷ 2 ∷ 0 ∷ 1 ∷ 3 ∷ 0 ∷ 0 ∷ 3 ∷ 0 ∷ 0 ∷ 0 ∷ 1 ∷ 65 ∷ []

abbrev pub failure : List ℕ
failure = 210 ∷ 0 ∷ 1 ∷ 1 ∷ 4 ∷ 2 ∷ 1 ∷ []

abbrev pub asks : Journal
asks = Step (record { 0 = 0 })
    (Command (commands.Send 1 (record { tick = 0; ticks = 5 }) path asked))
    (outputs.Send 2 (5 ∷ []) (bodies.Request 1 sent_on) ∷ []) ∷ []

abbrev pub goes_on : Journal
goes_on = Step (record { 0 = 1 })
    (Frame 2 (1 ∷ []) (frame 0))
    (outputs.Send 1 (3 ∷ []) (bodies.Request 1 asked) ∷ []) ∷ asks

abbrev pub answers : Journal
answers = Step (record { 0 = 2 })
    (Frame 1 (0 ∷ []) (frame 1))
    (outputs.Send 1 (0 ∷ []) (bodies.Reply 1 answer) ∷ []) ∷ goes_on

abbrev pub times_out : Journal
times_out = Step (record { 0 = 1 })
    (Tick 4)
    (outputs.Send 2 (1 ∷ []) (bodies.Reply 1 failure) ∷ []) ∷ answers

abbrev pub comes_late : Journal
comes_late = Step (record { 0 = 1 })
    (Frame 1 (3 ∷ []) (frame 2))
    (outputs.Dropped Late ∷ []) ∷ times_out
