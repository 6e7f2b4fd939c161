-- A run through two bridges: an open, a datum that goes down the connection, and another that comes
-- up.
use Rattle.std.specs.Prelude.{ℕ, Bool, false, List, [], ◌∷◌, Some, None}
use Rattle.cip_hops.specs.declared.hop.Hop.{Hop}
use Rattle.cip_hops.specs.declared.opening.Opening.{Opening}
use Rattle.cip_hops.specs.declared.opening.HopUp.{HopUp}
use Rattle.cip_hops.specs.declared.opening.HopUp.TheVariants.{Link as UpLink, Local as UpLocal}
use Rattle.cip_hops.specs.declared.opening.HopDown.{HopDown}
use Rattle.cip_hops.specs.declared.opening.HopDown.TheVariants.{Link as DownLink, End}
use Rattle.cip_event.specs.declared.event.Command.TheVariants as commands
use Rattle.cip_event.specs.declared.event.Body.TheVariants as bodies
use Rattle.cip_event.specs.declared.event.Output.TheVariants as outputs
use Rattle.cip_world.specs.declared.journal.Input.TheVariants.{Command, Frame}
use Rattle.cip_world.specs.declared.journal.Entry.TheVariants.{Step}
use Rattle.cip_world.specs.Journals.{Journal}
use Rattle.cip_world.specs.Chains.{Member}
use Rattle.witnesses.specs.Plans.{triad, params, frame}

abbrev pub first_request : List ℕ
first_request = 84 ∷ 2 ∷ 32 ∷ 6 ∷ 36 ∷ 1 ∷ 7 ∷ 249 ∷ 0 ∷ 0 ∷ 0 ∷ 0 ∷ 17 ∷ 0 ∷ 0 ∷ 0 ∷ 66 ∷ 0 ∷ 1
    ∷ 1 ∷ 1 ∷ 0 ∷ 0 ∷ 0 ∷ 0 ∷ 0 ∷ 0 ∷ 0 ∷ 16 ∷ 39 ∷ 0 ∷ 0 ∷ 6 ∷ 72 ∷ 16 ∷ 39 ∷ 0 ∷ 0 ∷ 4 ∷ 72 ∷ 1
    ∷ 6 ∷ 1 ∷ 3 ∷ 2 ∷ 7 ∷ 32 ∷ 4 ∷ 36 ∷ 100 ∷ 44 ∷ 101 ∷ 44 ∷ 102 ∷ []

abbrev pub second_request : List ℕ
second_request = 84 ∷ 2 ∷ 32 ∷ 6 ∷ 36 ∷ 1 ∷ 7 ∷ 248 ∷ 0 ∷ 0 ∷ 0 ∷ 0 ∷ 33 ∷ 0 ∷ 0 ∷ 0 ∷ 66 ∷ 0 ∷ 1
    ∷ 1 ∷ 1 ∷ 0 ∷ 0 ∷ 0 ∷ 0 ∷ 0 ∷ 0 ∷ 0 ∷ 16 ∷ 39 ∷ 0 ∷ 0 ∷ 6 ∷ 72 ∷ 16 ∷ 39 ∷ 0 ∷ 0 ∷ 4 ∷ 72 ∷ 1
    ∷ 5 ∷ 2 ∷ 7 ∷ 32 ∷ 4 ∷ 36 ∷ 100 ∷ 44 ∷ 101 ∷ 44 ∷ 102 ∷ []

abbrev pub third_request : List ℕ
third_request = 84 ∷ 2 ∷ 32 ∷ 6 ∷ 36 ∷ 1 ∷ 7 ∷ 247 ∷ 0 ∷ 0 ∷ 0 ∷ 0 ∷ 49 ∷ 0 ∷ 0 ∷ 0 ∷ 66 ∷ 0 ∷ 1
    ∷ 1 ∷ 1 ∷ 0 ∷ 0 ∷ 0 ∷ 0 ∷ 0 ∷ 0 ∷ 0 ∷ 16 ∷ 39 ∷ 0 ∷ 0 ∷ 6 ∷ 72 ∷ 16 ∷ 39 ∷ 0 ∷ 0 ∷ 4 ∷ 72 ∷ 1
    ∷ 4 ∷ 32 ∷ 4 ∷ 36 ∷ 100 ∷ 44 ∷ 101 ∷ 44 ∷ 102 ∷ []

abbrev pub first_success : List ℕ
first_success = 212 ∷ 0 ∷ 0 ∷ 0 ∷ 65 ∷ 0 ∷ 0 ∷ 0 ∷ 49 ∷ 0 ∷ 0 ∷ 0 ∷ 66 ∷ 0 ∷ 1 ∷ 1 ∷ 1 ∷ 0 ∷ 0
    ∷ 0 ∷ 16 ∷ 39 ∷ 0 ∷ 0 ∷ 16 ∷ 39 ∷ 0 ∷ 0 ∷ 0 ∷ 0 ∷ []

abbrev pub second_success : List ℕ
second_success = 212 ∷ 0 ∷ 0 ∷ 0 ∷ 50 ∷ 0 ∷ 0 ∷ 0 ∷ 33 ∷ 0 ∷ 0 ∷ 0 ∷ 66 ∷ 0 ∷ 1 ∷ 1 ∷ 1 ∷ 0 ∷ 0
    ∷ 0 ∷ 16 ∷ 39 ∷ 0 ∷ 0 ∷ 16 ∷ 39 ∷ 0 ∷ 0 ∷ 0 ∷ 0 ∷ []

abbrev pub third_success : List ℕ
third_success = 212 ∷ 0 ∷ 0 ∷ 0 ∷ 34 ∷ 0 ∷ 0 ∷ 0 ∷ 17 ∷ 0 ∷ 0 ∷ 0 ∷ 66 ∷ 0 ∷ 1 ∷ 1 ∷ 1 ∷ 0 ∷ 0
    ∷ 0 ∷ 16 ∷ 39 ∷ 0 ∷ 0 ∷ 16 ∷ 39 ∷ 0 ∷ 0 ∷ 0 ∷ 0 ∷ []

abbrev pub datum : List ℕ
datum = 1 ∷ 0 ∷ 170 ∷ 187 ∷ 204 ∷ 221 ∷ []

abbrev pub path : List ℕ
path = 2 ∷ 5 ∷ 1 ∷ 3 ∷ 2 ∷ 7 ∷ 32 ∷ 4 ∷ 36 ∷ 100 ∷ 44 ∷ 101 ∷ 44 ∷ 102 ∷ []

abbrev pub opens : Journal
opens = Step (record { 0 = 0 })
    (Command (commands.Open 1 (record { tick = 7; ticks = 250 }) path params))
    (outputs.Send 2 (5 ∷ []) (bodies.Request 1 first_request) ∷ []) ∷ []

abbrev pub at_first : Journal
at_first = Step (record { 0 = 1 })
    (Frame 2 (1 ∷ []) (frame 0))
    (outputs.Send 1 (3 ∷ []) (bodies.Request 1 second_request) ∷ []) ∷ opens

abbrev pub at_second : Journal
at_second = Step (record { 0 = 2 })
    (Frame 1 (0 ∷ []) (frame 1))
    (outputs.Send 2 (7 ∷ []) (bodies.Request 1 third_request) ∷ []) ∷ at_first

abbrev pub ends_there : Journal
ends_there = Step (record { 0 = 3 })
    (Frame 2 (1 ∷ []) (frame 2))
    (outputs.Send 2 (1 ∷ []) (bodies.Reply 1 first_success) ∷ []) ∷ at_second

abbrev pub back_at_second : Journal
back_at_second = Step (record { 0 = 2 })
    (Frame 2 (7 ∷ []) (frame 3))
    (outputs.Send 1 (0 ∷ []) (bodies.Reply 1 second_success) ∷ []) ∷ ends_there

abbrev pub back_at_first : Journal
back_at_first = Step (record { 0 = 1 })
    (Frame 1 (3 ∷ []) (frame 4))
    (outputs.Send 2 (1 ∷ []) (bodies.Reply 1 third_success) ∷ []) ∷ back_at_second

abbrev pub stands : Journal
stands = Step (record { 0 = 0 })
    (Frame 2 (5 ∷ []) (frame 5))
    (outputs.Done 1 third_success ∷ []) ∷ back_at_first

abbrev pub entered : Journal
entered = Step (record { 0 = 0 })
    (Command (commands.Enter 1 datum))
    (outputs.Send 2 (5 ∷ []) (bodies.Data 34 datum) ∷ []) ∷ stands

abbrev pub down_at_first : Journal
down_at_first = Step (record { 0 = 1 })
    (Frame 2 (1 ∷ []) (frame 7))
    (outputs.Send 1 (3 ∷ []) (bodies.Data 50 datum) ∷ []) ∷ entered

abbrev pub down_at_second : Journal
down_at_second = Step (record { 0 = 2 })
    (Frame 1 (0 ∷ []) (frame 8))
    (outputs.Send 2 (7 ∷ []) (bodies.Data 65 datum) ∷ []) ∷ down_at_first

abbrev pub taken : Journal
taken = Step (record { 0 = 3 })
    (Frame 2 (1 ∷ []) (frame 9))
    (outputs.Consumed triad 101 datum ∷ []) ∷ down_at_second

abbrev pub written : Journal
written = Step (record { 0 = 3 }) (Command (commands.Set 102 (17 ∷ 34 ∷ []))) [] ∷ taken

abbrev pub produced : Journal
produced = Step (record { 0 = 3 })
    (Command (commands.Produce 102))
    (outputs.Send 2 (1 ∷ []) (bodies.Data 49 (1 ∷ 0 ∷ 17 ∷ 34 ∷ [])) ∷ []) ∷ written

abbrev pub up_at_second : Journal
up_at_second = Step (record { 0 = 2 })
    (Frame 2 (7 ∷ []) (frame 12))
    (outputs.Send 1 (0 ∷ []) (bodies.Data 33 (1 ∷ 0 ∷ 17 ∷ 34 ∷ [])) ∷ []) ∷ produced

abbrev pub up_at_first : Journal
up_at_first = Step (record { 0 = 1 })
    (Frame 1 (3 ∷ []) (frame 13))
    (outputs.Send 2 (1 ∷ []) (bodies.Data 17 (1 ∷ 0 ∷ 17 ∷ 34 ∷ [])) ∷ []) ∷ up_at_second

abbrev pub arrived : Journal
arrived = Step (record { 0 = 0 })
    (Frame 2 (5 ∷ []) (frame 14))
    (outputs.Arrived 1 (1 ∷ 0 ∷ 17 ∷ 34 ∷ []) ∷ []) ∷ up_at_first

-- ---- the chain of the op, as it stands in the end

abbrev pub opening : HopUp → HopDown → List ℕ → Opening
opening up down path' = record {
  triad = triad;
  up = up;
  down = down;
  path = path';
  ot_size = 6;
  to_size = 4;
  ot_rpi = 10000;
  to_rpi = 10000;
  multiplier = 0;
  class = 1;
  large = false;
}

abbrev pub of_scanner : Hop
of_scanner = record {
  opening = opening (UpLocal 1) (DownLink 2 (5 ∷ [])) path;
  ids = record { up = None; down = Some 17 };
  their_id = Some 34;
  up_deadline = None;
  down_deadline = Some 40000;
  consumed = None;
  produced = None;
}

abbrev pub of_first : Hop
of_first = record {
  opening = opening (UpLink 2 (1 ∷ []) 17) (DownLink 1 (3 ∷ [])) (1 ∷ 3 ∷ 2 ∷ 7 ∷ 32 ∷ 4 ∷ 36
      ∷ 100 ∷ 44 ∷ 101 ∷ 44 ∷ 102 ∷ []);
  ids = record { up = Some 34; down = Some 33 };
  their_id = Some 50;
  up_deadline = Some 40000;
  down_deadline = Some 40000;
  consumed = None;
  produced = None;
}

abbrev pub of_second : Hop
of_second = record {
  opening = opening (UpLink 1 (0 ∷ []) 33) (DownLink 2 (7 ∷ [])) (2 ∷ 7 ∷ 32 ∷ 4 ∷ 36 ∷ 100 ∷ 44
      ∷ 101 ∷ 44 ∷ 102 ∷ []);
  ids = record { up = Some 50; down = Some 49 };
  their_id = Some 65;
  up_deadline = Some 40000;
  down_deadline = Some 40000;
  consumed = None;
  produced = None;
}

abbrev pub of_adapter : Hop
of_adapter = record {
  opening = opening (UpLink 2 (1 ∷ []) 49) (End 100 101 102) (32 ∷ 4 ∷ 36 ∷ 100 ∷ 44 ∷ 101 ∷ 44
      ∷ 102 ∷ []);
  ids = record { up = Some 65; down = None };
  their_id = None;
  up_deadline = Some 40000;
  down_deadline = None;
  consumed = Some 1;
  produced = Some 1;
}

-- the end's connection before any datum came to it
abbrev pub at_end : Hop
at_end = record of_adapter { consumed = None; produced = None }

-- the same connection, as a large open or a small one opened it
abbrev pub of_kind : Bool → Hop → Hop
of_kind large hop = record hop { opening = record hop.opening { large = large } }

abbrev pub first_member : Member
first_member = record { at = 0; hop = of_scanner }

abbrev pub end_member : Member
end_member = record { at = 3; hop = at_end }

abbrev pub members : List Member
members = record { at = 1; hop = of_first } ∷ record { at = 2; hop = of_second } ∷ end_member ∷ []
