-- The bytes of what goes out, and the same with other bytes.
use Rattle.cip_base.specs.Words.{Octets}
use Rattle.cip_event.specs.declared.event.Body.{Body}
use Rattle.cip_event.specs.declared.event.Body.TheVariants as bodies
use Rattle.cip_event.specs.declared.event.Output.{Output}
use Rattle.cip_event.specs.declared.event.Output.TheVariants as outputs

-- the bytes of a body
abbrev pub bytes_in : Body → Octets
bytes_in (bodies.Request number bytes) = bytes
bytes_in (bodies.Reply number bytes) = bytes
bytes_in (bodies.Data id bytes) = bytes

-- an output with these bytes, where it has bytes

abbrev pub filled_body : Body → Octets → Body
filled_body (bodies.Request number old) bytes = bodies.Request number bytes
filled_body (bodies.Reply number old) bytes = bodies.Reply number bytes
filled_body (bodies.Data id old) bytes = bodies.Data id bytes

abbrev pub filled : Output → Octets → Output
filled (outputs.Send port to body) bytes = outputs.Send port to (filled_body body bytes)
filled (outputs.Done op old) bytes = outputs.Done op bytes
filled (outputs.Consumed triad instance old) bytes = outputs.Consumed triad instance bytes
filled (outputs.Arrived op old) bytes = outputs.Arrived op bytes
filled (outputs.Refused fault) bytes = outputs.Refused fault
filled (outputs.Expired triad) bytes = outputs.Expired triad
filled (outputs.Ended op) bytes = outputs.Ended op
filled (outputs.Dropped reason) bytes = outputs.Dropped reason
