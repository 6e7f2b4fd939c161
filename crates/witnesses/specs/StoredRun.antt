-- The stored run: the scanner asks the second bridge for its identity through the first one, and
-- gets it.
use Rattle.std.specs.Prelude.{ℕ, List, [], ◌∷◌}
use Rattle.cip_event.specs.declared.event.Command.TheVariants as commands
use Rattle.cip_event.specs.declared.event.Body.TheVariants as bodies
use Rattle.cip_event.specs.declared.event.Output.TheVariants as outputs
use Rattle.cip_world.specs.declared.journal.Input.TheVariants.{Command, Frame}
use Rattle.cip_world.specs.declared.journal.Entry.TheVariants.{Step}
use Rattle.cip_world.specs.Journals.{Journal}
use Rattle.witnesses.specs.Plans.{frame}

abbrev pub path : List ℕ
path = 2 ∷ 5 ∷ 1 ∷ 3 ∷ []

abbrev pub asked : List ℕ
asked = 1 ∷ 2 ∷ 32 ∷ 1 ∷ 36 ∷ 1 ∷ []

abbrev pub sent_on : List ℕ
sent_on = 82 ∷ 2 ∷ 32 ∷ 6 ∷ 36 ∷ 1 ∷ 7 ∷ 249 ∷ 6 ∷ 0 ∷ 1 ∷ 2 ∷ 32 ∷ 1 ∷ 36 ∷ 1 ∷ 1 ∷ 0 ∷ 1 ∷ 3 ∷ []

abbrev pub answer : List ℕ
answer = 129 ∷ 0 ∷ 0 ∷ 0 ∷ 1 ∷ 1 ∷ 12 ∷ 0 ∷ 2 ∷ 0 ∷ 1 ∷ 3 ∷ 0 ∷ 0 ∷ 3 ∷ 0 ∷ 0 ∷ 0 ∷ 1 ∷ 65 ∷ []

abbrev pub asks : Journal
asks = Step (record { 0 = 0 })
    (Command (commands.Send 1 (record { tick = 7; ticks = 250 }) path asked))
    (outputs.Send 2 (5 ∷ []) (bodies.Request 1 sent_on) ∷ []) ∷ []

abbrev pub goes_on : Journal
goes_on = Step (record { 0 = 1 })
    (Frame 2 (1 ∷ []) (frame 0))
    (outputs.Send 1 (3 ∷ []) (bodies.Request 1 asked) ∷ []) ∷ asks

abbrev pub answers : Journal
answers = Step (record { 0 = 2 })
    (Frame 1 (0 ∷ []) (frame 1))
    (outputs.Send 1 (0 ∷ []) (bodies.Reply 1 answer) ∷ []) ∷ goes_on

abbrev pub goes_back : Journal
goes_back = Step (record { 0 = 1 })
    (Frame 1 (3 ∷ []) (frame 2))
    (outputs.Send 2 (1 ∷ []) (bodies.Reply 1 answer) ∷ []) ∷ answers

abbrev pub ends : Journal
ends = Step (record { 0 = 0 })
    (Frame 2 (5 ∷ []) (frame 3))
    (outputs.Done 1 answer ∷ []) ∷ goes_back
