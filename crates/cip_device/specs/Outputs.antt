-- What C is told of an output.
use Rattle.std.specs.Prelude.{◌≡◌, ◌≢◌, ◌↔◌, ◌<◌, ℕ, List, [], ◌∷◌, length, take, Option, Some, None}
use Rattle.cip_base.specs.Words.{Octets, LinkAddress}
use Rattle.cip_base.specs.declared.triad.Triad.{Triad}
use Rattle.cip_event.specs.declared.event.Body.{Body}
use Rattle.cip_event.specs.declared.event.Body.TheVariants as bodies
use Rattle.cip_event.specs.declared.event.Output.{Output}
use Rattle.cip_event.specs.declared.event.Output.TheVariants as outputs
use Rattle.cip_event.specs.declared.event.Refused.{Refused}
use Rattle.cip_event.specs.declared.event.Refused.TheVariants.{OpUsed, NotOpen, WrongSize, ReservedService, NoInstance}
use Rattle.cip_event.specs.declared.event.Dropped.{Dropped}
use Rattle.cip_event.specs.declared.event.Dropped.TheVariants as drops
use Rattle.cip_device.specs.Shown.{Shown, IsReady}
use Rattle.cip_device.specs.Statuses.{IsNextStatus}
use Rattle.cip_device.specs.declared.output.CipOutput.{CipOutput}

abbrev pub bytes_of_body : Body → Octets
bytes_of_body (bodies.Request number bytes) = bytes
bytes_of_body (bodies.Reply number bytes) = bytes
bytes_of_body (bodies.Data id bytes) = bytes

abbrev pub payload_of : Output → Octets
payload_of (outputs.Send port to body) = bytes_of_body body
payload_of (outputs.Done op reply) = reply
payload_of (outputs.Refused reason) = []
payload_of (outputs.Consumed triad instance bytes) = bytes
payload_of (outputs.Arrived op bytes) = bytes
payload_of (outputs.Expired triad) = []
payload_of (outputs.Ended op) = []
payload_of (outputs.Dropped reason) = []

-- the bytes of an address, the first so many of the sixteen
abbrev pub IsAddress : LinkAddress → CipOutput → Type 0
IsAddress to out = (out.to_length ≡ length to) × (take (length to) out.to ≡ to)

abbrev pub IsOriginator : Triad → CipOutput → Type 0
IsOriginator triad out =
    (out.serial ≡ triad.serial) × (out.vendor ≡ triad.vendor)
    × (out.originator ≡ triad.originator)

-- kind, number and count of bytes
abbrev pub IsBody : Body → CipOutput → Type 0
IsBody (bodies.Request number bytes) out =
    (out.kind ≡ 1) × (out.number ≡ number) × (out.length ≡ length bytes)
IsBody (bodies.Reply number bytes) out =
    (out.kind ≡ 2) × (out.number ≡ number) × (out.length ≡ length bytes)
IsBody (bodies.Data id bytes) out =
    (out.kind ≡ 3) × (out.number ≡ id) × (out.length ≡ length bytes)

abbrev pub reason_of_refused : Refused → ℕ
reason_of_refused OpUsed = 1
reason_of_refused NotOpen = 2
reason_of_refused WrongSize = 3
reason_of_refused ReservedService = 4
reason_of_refused NoInstance = 5

abbrev pub reason_of_dropped : Dropped → ℕ
reason_of_dropped drops.Malformed = 1
reason_of_dropped drops.Late = 2
reason_of_dropped drops.UnknownId = 3
reason_of_dropped drops.WrongSize = 4

-- an output but for its bytes
abbrev pub IsOutline : Output → CipOutput → Type 0
IsOutline (outputs.Send port to body) out =
    IsBody body out × (out.port ≡ port) × IsAddress to out
IsOutline (outputs.Done op reply) out =
    (out.kind ≡ 4) × (out.number ≡ op) × (out.length ≡ length reply)
IsOutline (outputs.Refused reason) out = (out.kind ≡ 5) × (out.reason ≡ reason_of_refused reason)
IsOutline (outputs.Consumed triad instance bytes) out =
    (out.kind ≡ 6) × (out.instance ≡ instance) × IsOriginator triad out
    × (out.length ≡ length bytes)
IsOutline (outputs.Arrived op bytes) out =
    (out.kind ≡ 7) × (out.number ≡ op) × (out.length ≡ length bytes)
IsOutline (outputs.Expired triad) out = (out.kind ≡ 8) × IsOriginator triad out
IsOutline (outputs.Ended op) out = (out.kind ≡ 10) × (out.number ≡ op)
IsOutline (outputs.Dropped reason) out = (out.kind ≡ 9) × (out.reason ≡ reason_of_dropped reason)

-- the next output is told and waits no more
abbrev pub IsTold : Output → Shown → CipOutput → Octets → Shown → Type 0
IsTold output old out buffer new =
    (old.outputs ≡ output ∷ new.outputs) × (new.config ≡ old.config) × (new.state ≡ old.state)
    × IsOutline output out × (take (length (payload_of output)) buffer ≡ payload_of output)

abbrev pub IsNext : Shown → CipOutput → Octets → Shown → Type 0
IsNext old out buffer new = (output : Output) × IsTold output old out buffer new

abbrev pub IsDeviceNext : Option Shown → CipOutput → Octets → Option Shown → Type 0
IsDeviceNext (Some old) out buffer (Some new) = IsNext old out buffer new
IsDeviceNext (Some old) out buffer None = ⊥
IsDeviceNext None out buffer new = ⊥

-- how many bytes the first output has
abbrev pub next_length : List Output → ℕ
next_length [] = 0
next_length (output ∷ rest) = length (payload_of output)

-- the first output is told but for its bytes
abbrev pub IsNextOutline : List Output → CipOutput → Type 0
IsNextOutline [] out = ⊥
IsNextOutline (output ∷ rest) out = IsOutline output out

-- the next output has more bytes than so many
abbrev pub IsLonger : Option Shown → ℕ → Type 0
IsLonger (Some old) room = room < next_length old.outputs
IsLonger None room = ⊥

abbrev pub IsDeviceOutline : Option Shown → CipOutput → Type 0
IsDeviceOutline (Some old) out = IsNextOutline old.outputs out
IsDeviceOutline None out = ⊥

-- what is answered to who asks for the next output, with a buffer of so many bytes: 0 it was told,
-- and else nothing has changed; 1 exactly where there is no device, 7 exactly where no output
-- waits, 8 exactly where it has more bytes than the buffer, and then it is told but for these; and
-- nothing else
abbrev pub IsNextAnswer : ℕ → Option Shown → CipOutput → ℕ → Octets → Option Shown → Type 0
IsNextAnswer result old out room buffer new =
    (result ≡ 0 → IsDeviceNext old out buffer new) × (result ≢ 0 → new ≡ old)
    × ((result ≡ 1) ↔ (old ≡ None)) × ((result ≡ 7) ↔ IsReady old)
    × (result ≡ 8 → room < out.length) × ((result ≡ 8) ↔ IsLonger old room)
    × (result ≡ 8 → IsDeviceOutline old out) × IsNextStatus result
