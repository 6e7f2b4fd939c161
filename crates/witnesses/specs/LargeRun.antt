-- A large open through two bridges, to the end that the chained run's open has.
use Rattle.std.specs.Prelude.{ℕ, true, List, [], ◌∷◌}
use Rattle.cip_hops.specs.declared.hop.Hop.{Hop}
use Rattle.cip_event.specs.declared.event.Command.TheVariants as commands
use Rattle.cip_event.specs.declared.event.Body.TheVariants as bodies
use Rattle.cip_event.specs.declared.event.LargeParams.{LargeParams}
use Rattle.cip_event.specs.declared.event.Output.TheVariants as outputs
use Rattle.cip_world.specs.declared.journal.Input.TheVariants.{Command, Frame}
use Rattle.cip_world.specs.declared.journal.Entry.TheVariants.{Step}
use Rattle.cip_world.specs.Journals.{Journal}
use Rattle.cip_world.specs.Chains.{Member}
use Rattle.witnesses.specs.Plans.{frame}
use Rattle.witnesses.specs.ChainedRun as chained
use Rattle.witnesses.specs.ChainedRun.{path, of_kind}

-- the chained run's parameters: the kind and the priority in the high word, the size in the low one
abbrev pub large_params : LargeParams
large_params = record {
  serial = 66;
  multiplier = 0;
  transport = 1;
  ot_rpi = 10000;
  ot_params = 1207959558;
  to_rpi = 10000;
  to_params = 1207959556;
}

abbrev pub first_request : List ℕ
first_request = 91 ∷ 2 ∷ 32 ∷ 6 ∷ 36 ∷ 1 ∷ 7 ∷ 249 ∷ 0 ∷ 0 ∷ 0 ∷ 0 ∷ 17 ∷ 0 ∷ 0 ∷ 0 ∷ 66 ∷ 0 ∷ 1 ∷
    1 ∷ 1 ∷ 0 ∷ 0 ∷ 0 ∷ 0 ∷ 0 ∷ 0 ∷ 0 ∷ 16 ∷ 39 ∷ 0 ∷ 0 ∷ 6 ∷ 0 ∷ 0 ∷ 72 ∷ 16 ∷ 39 ∷ 0 ∷ 0 ∷ 4 ∷
    0 ∷ 0 ∷ 72 ∷ 1 ∷ 6 ∷ 1 ∷ 3 ∷ 2 ∷ 7 ∷ 32 ∷ 4 ∷ 36 ∷ 100 ∷ 44 ∷ 101 ∷ 44 ∷ 102 ∷ []

abbrev pub second_request : List ℕ
second_request = 91 ∷ 2 ∷ 32 ∷ 6 ∷ 36 ∷ 1 ∷ 7 ∷ 248 ∷ 0 ∷ 0 ∷ 0 ∷ 0 ∷ 33 ∷ 0 ∷ 0 ∷ 0 ∷ 66 ∷ 0 ∷
    1 ∷ 1 ∷ 1 ∷ 0 ∷ 0 ∷ 0 ∷ 0 ∷ 0 ∷ 0 ∷ 0 ∷ 16 ∷ 39 ∷ 0 ∷ 0 ∷ 6 ∷ 0 ∷ 0 ∷ 72 ∷ 16 ∷ 39 ∷ 0 ∷ 0 ∷
    4 ∷ 0 ∷ 0 ∷ 72 ∷ 1 ∷ 5 ∷ 2 ∷ 7 ∷ 32 ∷ 4 ∷ 36 ∷ 100 ∷ 44 ∷ 101 ∷ 44 ∷ 102 ∷ []

abbrev pub third_request : List ℕ
third_request = 91 ∷ 2 ∷ 32 ∷ 6 ∷ 36 ∷ 1 ∷ 7 ∷ 247 ∷ 0 ∷ 0 ∷ 0 ∷ 0 ∷ 49 ∷ 0 ∷ 0 ∷ 0 ∷ 66 ∷ 0 ∷ 1 ∷
    1 ∷ 1 ∷ 0 ∷ 0 ∷ 0 ∷ 0 ∷ 0 ∷ 0 ∷ 0 ∷ 16 ∷ 39 ∷ 0 ∷ 0 ∷ 6 ∷ 0 ∷ 0 ∷ 72 ∷ 16 ∷ 39 ∷ 0 ∷ 0 ∷ 4 ∷
    0 ∷ 0 ∷ 72 ∷ 1 ∷ 4 ∷ 32 ∷ 4 ∷ 36 ∷ 100 ∷ 44 ∷ 101 ∷ 44 ∷ 102 ∷ []

abbrev pub first_success : List ℕ
first_success = 219 ∷ 0 ∷ 0 ∷ 0 ∷ 65 ∷ 0 ∷ 0 ∷ 0 ∷ 49 ∷ 0 ∷ 0 ∷ 0 ∷ 66 ∷ 0 ∷ 1 ∷ 1 ∷ 1 ∷ 0 ∷ 0 ∷
    0 ∷ 16 ∷ 39 ∷ 0 ∷ 0 ∷ 16 ∷ 39 ∷ 0 ∷ 0 ∷ 0 ∷ 0 ∷ []

abbrev pub second_success : List ℕ
second_success = 219 ∷ 0 ∷ 0 ∷ 0 ∷ 50 ∷ 0 ∷ 0 ∷ 0 ∷ 33 ∷ 0 ∷ 0 ∷ 0 ∷ 66 ∷ 0 ∷ 1 ∷ 1 ∷ 1 ∷ 0 ∷ 0 ∷
    0 ∷ 16 ∷ 39 ∷ 0 ∷ 0 ∷ 16 ∷ 39 ∷ 0 ∷ 0 ∷ 0 ∷ 0 ∷ []

abbrev pub third_success : List ℕ
third_success = 219 ∷ 0 ∷ 0 ∷ 0 ∷ 34 ∷ 0 ∷ 0 ∷ 0 ∷ 17 ∷ 0 ∷ 0 ∷ 0 ∷ 66 ∷ 0 ∷ 1 ∷ 1 ∷ 1 ∷ 0 ∷ 0 ∷
    0 ∷ 16 ∷ 39 ∷ 0 ∷ 0 ∷ 16 ∷ 39 ∷ 0 ∷ 0 ∷ 0 ∷ 0 ∷ []

abbrev pub opens : Journal
opens = Step (record { 0 = 0 })
    (Command (commands.LargeOpen 1 (record { tick = 7; ticks = 250 }) path large_params))
    (outputs.Send 2 (5 ∷ []) (bodies.Request 1 first_request) ∷ []) ∷ []

abbrev pub at_first : Journal
at_first = Step (record { 0 = 1 })
    (Frame 2 (1 ∷ []) (frame 0))
    (outputs.Send 1 (3 ∷ []) (bodies.Request 1 second_request) ∷ []) ∷ opens

abbrev pub at_second : Journal
at_second = Step (record { 0 = 2 })
    (Frame 1 (0 ∷ []) (frame 1))
    (outputs.Send 2 (7 ∷ []) (bodies.Request 1 third_request) ∷ []) ∷ at_first

abbrev pub ends_there : Journal
ends_there = Step (record { 0 = 3 })
    (Frame 2 (1 ∷ []) (frame 2))
    (outputs.Send 2 (1 ∷ []) (bodies.Reply 1 first_success) ∷ []) ∷ at_second

abbrev pub back_at_second : Journal
back_at_second = Step (record { 0 = 2 })
    (Frame 2 (7 ∷ []) (frame 3))
    (outputs.Send 1 (0 ∷ []) (bodies.Reply 1 second_success) ∷ []) ∷ ends_there

abbrev pub back_at_first : Journal
back_at_first = Step (record { 0 = 1 })
    (Frame 1 (3 ∷ []) (frame 4))
    (outputs.Send 2 (1 ∷ []) (bodies.Reply 1 third_success) ∷ []) ∷ back_at_second

abbrev pub stands : Journal
stands = Step (record { 0 = 0 })
    (Frame 2 (5 ∷ []) (frame 5))
    (outputs.Done 1 third_success ∷ []) ∷ back_at_first

-- ---- the chain of the op: that of the chained run, opened large

abbrev pub of_scanner : Hop
of_scanner = of_kind true chained.of_scanner

abbrev pub of_first : Hop
of_first = of_kind true chained.of_first

abbrev pub of_second : Hop
of_second = of_kind true chained.of_second

abbrev pub of_adapter : Hop
of_adapter = of_kind true chained.at_end

abbrev pub first_member : Member
first_member = record { at = 0; hop = of_scanner }

abbrev pub members : List Member
members = record { at = 1; hop = of_first } ∷ record { at = 2; hop = of_second }
    ∷ record { at = 3; hop = of_adapter } ∷ []
