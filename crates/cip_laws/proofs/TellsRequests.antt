-- What a request in a frame tells, read backwards.
use Rattle.std.proofs.Common.{◌≡◌, ◌∙◌, ℕ, List, Some, refl, ap}
use Rattle.cip_pending.specs.declared.entry.UpSide.{UpSide}
use Rattle.cip_pending.specs.declared.entry.UpSide.TheVariants.{Link}
use Rattle.cip_config.specs.declared.config.ModuleSettings.{ModuleSettings}
use Rattle.cip_event.specs.declared.event.Event.{Event}
use Rattle.cip_event.specs.declared.event.Event.TheVariants.{Frame}
use Rattle.cip_event.specs.declared.event.Body.TheVariants.{Request}
use Rattle.cip_event.specs.declared.event.Dropped.{Dropped}
use Rattle.cip_event.specs.declared.event.Dropped.TheVariants.{Malformed}
use Rattle.cip_routing.specs.RequestRows.{RequestRow, UnknownPortOrTooLong, NotARequest, Refuses, UnconnectedSend, ForwardOpen, ForwardClose, Target}
use Rattle.cip_routing.specs.RequestRows.{request_row}
use Rattle.cip_routing.specs.State.{State}
use Rattle.cip_routing.specs.Table.{request_effects}
use Rattle.cip_laws.specs.Tells.{Came, DropsAs, request_dropped, RequestFails, Itself, AllTell}
use Rattle.cip_laws.proofs.TellsSends.{send_tells}
use Rattle.cip_laws.proofs.TellsOpens.{open_tells}
use Rattle.cip_laws.proofs.TellsCloses.{close_tells}

drops : (config : ModuleSettings) (s : State) (event : Event) (up : UpSide) (row : RequestRow) (reason : Dropped) → Came config event up row
    → request_dropped row ≡ Some reason → DropsAs config s event reason
drops config s event up row reason came is = record {
  port = came.port;
  from = came.from;
  body = Request came.number came.bytes;
  event_is = came.event_is;
  meets = ap request_dropped came.meets ∙ is;
}

request_told : (config : ModuleSettings) (s : State) (event : Event) (up : UpSide) (row : RequestRow) → Came config event up row
    → AllTell config s event (request_effects config s up row)
request_told config s event up UnknownPortOrTooLong came = (drops config s event up UnknownPortOrTooLong Malformed came refl, tt)
request_told config s event up NotARequest came = (drops config s event up NotARequest Malformed came refl, tt)
request_told config s event up (Refuses service refusal) came = (RequestFails service refusal came refl, tt)
request_told config s event up (UnconnectedSend asked) came = send_tells config s event up asked came
request_told config s event up (ForwardOpen large asked) came = open_tells config s event up large asked came
request_told config s event up (ForwardClose asked) came = close_tells config s event up asked came
request_told config s event up (Target asked) came = (Itself came, tt)

pub requests_tell : (config : ModuleSettings) (s : State) (port : ℕ) (from : List ℕ) (number : ℕ) (bytes : List ℕ)
    → AllTell config s (Frame port from (Request number bytes)) (request_effects config s (Link port from number) (request_row config port bytes))
requests_tell config s port from number bytes =
    request_told config s (Frame port from (Request number bytes)) (Link port from number) (request_row config port bytes)
    (record { port = port; from = from; number = number; bytes = bytes; event_is = refl; up_is = refl; meets = refl })
