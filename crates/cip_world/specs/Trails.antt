-- The trail of a command: where its request went, entry by entry.
use Rattle.std.specs.Prelude.{ℕ, zero, suc, ◌+◌, List, [], ◌∷◌, Option, Some, None, Bool, true, false, not, ◌&&◌, ◌==◌, nat_le, if◌then◌else◌, length}
use Rattle.std.specs.Prelude.{option_map, option_and_then}
use Rattle.std.specs.List.{list_any}
use Rattle.cip_event.specs.declared.event.Body.{Body}
use Rattle.cip_event.specs.declared.event.Body.TheVariants as bodies
use Rattle.cip_event.specs.declared.event.Command.{Command}
use Rattle.cip_event.specs.declared.event.Command.TheVariants as commands
use Rattle.cip_event.specs.declared.event.Output.{Output}
use Rattle.cip_event.specs.declared.event.Output.TheVariants as outputs
use Rattle.cip_laws.specs.Births.{or_else}
use Rattle.cip_event.specs.declared.frame.FrameName.{FrameName}
use Rattle.cip_world.specs.declared.journal.Input.{Input}
use Rattle.cip_world.specs.declared.journal.Input.TheVariants as inputs
use Rattle.cip_world.specs.declared.journal.Entry.{Entry}
use Rattle.cip_world.specs.declared.journal.Entry.TheVariants.{Step, Lost}
use Rattle.cip_world.specs.Journals.{Journal, entry_at, brought_by, is_that}

-- ---- where a trail begins

abbrev pub is_refusal : Output → Bool
is_refusal (outputs.Send port to body) = false
is_refusal (outputs.Done op reply) = false
is_refusal (outputs.Refused fault) = true
is_refusal (outputs.Consumed triad instance bytes) = false
is_refusal (outputs.Arrived op bytes) = false
is_refusal (outputs.Expired triad) = false
is_refusal (outputs.Ended op) = false
is_refusal (outputs.Dropped reason) = false

abbrev pub opens_or_sends : ℕ → Command → Bool
opens_or_sends op (commands.Open o timing path params) = o == op
opens_or_sends op (commands.LargeOpen o timing path params) = o == op
opens_or_sends op (commands.Close o of timing) = false
opens_or_sends op (commands.Send o timing path request) = o == op
opens_or_sends op (commands.Enter of bytes) = false
opens_or_sends op (commands.Set instance bytes) = false
opens_or_sends op (commands.Produce instance) = false

abbrev pub asks_for : ℕ → Input → Bool
asks_for op (inputs.Command command) = opens_or_sends op command
asks_for op (inputs.Tick ms) = false
asks_for op (inputs.Frame port from name) = false

-- an Open, a LargeOpen or a Send of this op at module m that is not refused
abbrev pub is_command : ℕ → ℕ → Entry → Bool
is_command m op (Step n input outs) =
    n.0 == m && asks_for op input && not (list_any is_refusal outs)
is_command m op (Lost frame) = false

-- ---- where it goes on

abbrev pub is_request_body : Body → Bool
is_request_body (bodies.Request number bytes) = true
is_request_body (bodies.Reply number bytes) = false
is_request_body (bodies.Data id bytes) = false

abbrev pub is_request_sent : Output → Bool
is_request_sent (outputs.Send port to body) = is_request_body body
is_request_sent (outputs.Done op reply) = false
is_request_sent (outputs.Refused fault) = false
is_request_sent (outputs.Consumed triad instance bytes) = false
is_request_sent (outputs.Arrived op bytes) = false
is_request_sent (outputs.Expired triad) = false
is_request_sent (outputs.Ended op) = false
is_request_sent (outputs.Dropped reason) = false

-- the place of the first request among these outputs, of which the first has place i
abbrev pub request_from : ℕ → List Output → Option ℕ
request_from i [] = None
request_from i (o ∷ os) = if is_request_sent o then Some i else request_from (i + 1) os

-- the name of an output of entry k
abbrev pub named : ℕ → ℕ → FrameName
named k i = record { entry = k; output = i }

-- the request that entry k sent; the first where it sent several
abbrev pub request_by : ℕ → Entry → Option FrameName
request_by k (Step m input outs) = option_map (named k) (request_from 0 outs)
request_by k (Lost frame) = None

abbrev pub request_of : Journal → ℕ → Option FrameName
request_of j k = option_and_then (request_by k) (entry_at j k)

-- the frame arrived in this entry
abbrev pub arrived_in : FrameName → Entry → Bool
arrived_in f (Step m input outs) = is_that f (brought_by input)
arrived_in f (Lost frame) = false

-- the first entry of which a test holds, among those of number n and above
abbrev pub first_from : (Entry → Bool) → ℕ → Journal → Option ℕ
first_from test n [] = None
first_from test n (e ∷ j) = or_else (first_from test n j)
    (if nat_le n (length j) && test e then Some (length j) else None)

-- the first arrival, behind entry k, of the request that entry k sent
abbrev pub next_of : Journal → ℕ → Option ℕ
next_of j k = option_and_then (λ f. first_from (arrived_in f) (k + 1) j) (request_of j k)

-- an entry, then the next of it, and so on, as many as that at most
abbrev pub and_so_on : ℕ → Journal → Option ℕ → List ℕ
and_so_on zero j k = []
and_so_on (suc most) j None = []
and_so_on (suc most) j (Some k) = k ∷ and_so_on most j (next_of j k)

-- The first entry of an Open or a Send of this op at module m that is not refused, then the arrival
-- of the request that it sent, then the arrival of the one that was sent there, and so on. It is
-- empty without such a command.
unfoldable pub trail_of : Journal → ℕ → ℕ → List ℕ
trail_of j m op = and_so_on (length j) j (first_from (is_command m op) 0 j)
