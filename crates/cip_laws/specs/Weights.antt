-- How often a module gave outputs of a kind. A kind is a function that weighs an output: 1 for one
-- of the kind, else 0.
use Rattle.std.specs.Prelude.{ℕ, List, [], ◌∷◌, Option, Some, None, Bool, true, false, ◌&&◌, ◌+◌, ◌==◌}
use Rattle.std.specs.Str.{bytes_eq}
use Rattle.cip_event.specs.declared.event.Body.{Body}
use Rattle.cip_event.specs.declared.event.Body.TheVariants as bodies
use Rattle.cip_event.specs.declared.event.Event.{Event}
use Rattle.cip_event.specs.declared.event.Output.{Output}
use Rattle.cip_event.specs.declared.event.Output.TheVariants as outputs
use Rattle.cip_pending.specs.declared.entry.UpSide.{UpSide}
use Rattle.cip_pending.specs.declared.entry.UpSide.TheVariants.{Link, Local}
use Rattle.cip_laws.specs.Tells.{asker}
use Rattle.cip_laws.specs.Histories.{Turn}

abbrev pub mark : Bool → ℕ
mark true = 1
mark false = 0

-- ---- kinds of outputs

abbrev pub request_body : ℕ → Body → ℕ
request_body n (bodies.Request number bytes) = mark (number == n)
request_body n (bodies.Reply number bytes) = 0
request_body n (bodies.Data id bytes) = 0

-- a request with this number
abbrev pub is_request : ℕ → Output → ℕ
is_request n (outputs.Send port to body) = request_body n body
is_request n (outputs.Done op reply) = 0
is_request n (outputs.Refused fault) = 0
is_request n (outputs.Consumed triad instance bytes) = 0
is_request n (outputs.Arrived op bytes) = 0
is_request n (outputs.Expired triad) = 0
is_request n (outputs.Ended op) = 0
is_request n (outputs.Dropped reason) = 0

-- to whom an output replies: by a link, under the number that the request had there, or to the
-- command of an op
abbrev pub reply_from : ℕ → List ℕ → Body → Option UpSide
reply_from port to (bodies.Request number bytes) = None
reply_from port to (bodies.Reply number bytes) = Some (Link port to number)
reply_from port to (bodies.Data id bytes) = None

abbrev pub replies_to : Output → Option UpSide
replies_to (outputs.Send port to body) = reply_from port to body
replies_to (outputs.Done op reply) = Some (Local op)
replies_to (outputs.Refused fault) = None
replies_to (outputs.Consumed triad instance bytes) = None
replies_to (outputs.Arrived op bytes) = None
replies_to (outputs.Expired triad) = None
replies_to (outputs.Ended op) = None
replies_to (outputs.Dropped reason) = None

abbrev pub same_up : UpSide → UpSide → Bool
same_up (Link p a n) (Link port address number) = (p == port && bytes_eq a address) && n == number
same_up (Link p a n) (Local op) = false
same_up (Local o) (Link port address number) = false
same_up (Local o) (Local op) = o == op

abbrev pub is_to : UpSide → Option UpSide → ℕ
is_to up None = 0
is_to up (Some v) = mark (same_up v up)

-- a reply to this up side
abbrev pub is_reply : UpSide → Output → ℕ
is_reply up o = is_to up (replies_to o)

-- the end of this op by a reset
abbrev pub is_ended : ℕ → Output → ℕ
is_ended op (outputs.Send port to body) = 0
is_ended op (outputs.Done o reply) = 0
is_ended op (outputs.Refused fault) = 0
is_ended op (outputs.Consumed triad instance bytes) = 0
is_ended op (outputs.Arrived o bytes) = 0
is_ended op (outputs.Expired triad) = 0
is_ended op (outputs.Ended o) = mark (o == op)
is_ended op (outputs.Dropped reason) = 0

-- an event that asks something, for this up side
abbrev pub is_asked_by : UpSide → Event → ℕ
is_asked_by up event = is_to up (asker event)

-- ---- how many there are

abbrev pub weight_in : (Output → ℕ) → List Output → ℕ
weight_in w [] = 0
weight_in w (o ∷ os) = w o + weight_in w os

abbrev pub weight : (Output → ℕ) → List Turn → ℕ
weight w [] = 0
weight w (turn ∷ turns) = weight_in w turn.outputs + weight w turns

-- the same of events
abbrev pub came : (Event → ℕ) → List Turn → ℕ
came w [] = 0
came w (turn ∷ turns) = w turn.event + came w turns
