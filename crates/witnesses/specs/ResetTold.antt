-- The turns of the bridge that is reset and used again, and those of the scanner that resets
-- itself.
use Rattle.std.specs.Prelude.{List, [], ◌∷◌, Some}
use Rattle.cip_hops.specs.declared.opening.Opening.{Opening}
use Rattle.cip_hops.specs.declared.opening.OwnIds.{OwnIds}
use Rattle.cip_hops.specs.declared.opening.HopUp.TheVariants.{Link as UpLink}
use Rattle.cip_hops.specs.declared.opening.HopDown.TheVariants.{Link as DownLink}
use Rattle.cip_event.specs.declared.event.Body.TheVariants as bodies
use Rattle.cip_event.specs.declared.event.Command.TheVariants as commands
use Rattle.cip_event.specs.declared.event.Dropped.TheVariants.{Late, UnknownId}
use Rattle.cip_event.specs.declared.event.Event.TheVariants as events
use Rattle.cip_event.specs.declared.event.Output.TheVariants as outputs
use Rattle.cip_laws.specs.Histories.{Turn}
use Rattle.witnesses.specs.ChainedRun.{first_request, datum, opening}
use Rattle.witnesses.specs.FailedOpen.{failure}
use Rattle.witnesses.specs.LateReply.{asked}
use Rattle.witnesses.specs.OpenedAgain.{second_request, second_success, third_success}
use Rattle.witnesses.specs.ResetRun.{reset, done}

-- the bridge is reset
abbrev pub is_reset : Turn
is_reset = record {
  event = events.Frame 2 (1 ∷ []) (bodies.Request 1 reset);
  outputs = outputs.Send 2 (1 ∷ []) (bodies.Reply 1 done) ∷ [];
}

-- an open goes on
abbrev pub goes_on : Turn
goes_on = record {
  event = events.Frame 2 (1 ∷ []) (bodies.Request 2 first_request);
  outputs = outputs.Send 1 (3 ∷ []) (bodies.Request 65537 second_request) ∷ [];
}

-- its success comes back, and a datum goes down and another up
abbrev pub after_it : List Turn
after_it =
    record {
      event = events.Frame 1 (3 ∷ []) (bodies.Data 65537 (1 ∷ 0 ∷ 17 ∷ 34 ∷ []));
      outputs = outputs.Send 2 (1 ∷ []) (bodies.Data 17 (1 ∷ 0 ∷ 17 ∷ 34 ∷ [])) ∷ [];
    }
    ∷ record {
      event = events.Frame 2 (1 ∷ []) (bodies.Data 65538 datum);
      outputs = outputs.Send 1 (3 ∷ []) (bodies.Data 50 datum) ∷ [];
    }
    ∷ record {
      event = events.Frame 1 (3 ∷ []) (bodies.Reply 65537 second_success);
      outputs = outputs.Send 2 (1 ∷ []) (bodies.Reply 2 third_success) ∷ [];
    }
    ∷ goes_on ∷ []

-- what the open begins there, with its ids
abbrev pub begins : Opening
begins = opening (UpLink 2 (1 ∷ []) 17) (DownLink 1 (3 ∷ [])) (1 ∷ 3 ∷ 2 ∷ 7 ∷ 32 ∷ 4 ∷ 36 ∷ 100
    ∷ 44 ∷ 101 ∷ 44 ∷ 102 ∷ [])

abbrev pub own : OwnIds
own = record { up = Some 65538; down = Some 65537 }

-- ---- the bridge that is reset under a connection

abbrev pub resets_under_it : Turn
resets_under_it = record {
  event = events.Frame 2 (1 ∷ []) (bodies.Request 2 reset);
  outputs = outputs.Send 2 (1 ∷ []) (bodies.Reply 2 done) ∷ [];
}

-- a datum of the connection comes, and is unknown
abbrev pub finds_none : Turn
finds_none = record {
  event = events.Frame 2 (1 ∷ []) (bodies.Data 34 datum);
  outputs = outputs.Dropped UnknownId ∷ [];
}

-- ---- the scanner that resets itself while its open is under way

abbrev pub resets_itself : Turn
resets_itself = record {
  event = events.Command (commands.Send 2 (record { tick = 7; ticks = 250 }) [] reset);
  outputs = outputs.Done 2 done ∷ outputs.Ended 1 ∷ [];
}

-- it asks for something else, and the reply to the open comes late
abbrev pub behind_it : List Turn
behind_it =
    record {
      event = events.Frame 2 (5 ∷ []) (bodies.Reply 1 failure);
      outputs = outputs.Dropped Late ∷ [];
    }
    ∷ record {
      event = events.Command
          (commands.Send 3 (record { tick = 7; ticks = 250 }) (2 ∷ 5 ∷ []) asked);
      outputs = outputs.Send 2 (5 ∷ []) (bodies.Request 65537 asked) ∷ [];
    }
    ∷ []

-- ---- the scanner that resets itself with its connection open

abbrev pub ends_itself : Turn
ends_itself = record {
  event = events.Command (commands.Send 3 (record { tick = 7; ticks = 250 }) [] reset);
  outputs = outputs.Done 3 done ∷ outputs.Ended 2 ∷ [];
}
