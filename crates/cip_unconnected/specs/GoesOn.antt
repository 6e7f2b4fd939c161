-- What goes on of an Unconnected_Send (Volume 1, chapter 3, Unconnected_Send).
use Rattle.std.specs.Prelude.{◌≡◌, ◌==◌, if◌then◌else◌, length, Ok, Some}
use Rattle.cip_base.specs.Words.{Octets}
use Rattle.cip_base.specs.Timings.{one_less}
use Rattle.cip_segment.specs.Reading.{HopAt, hop_of}
use Rattle.cip_message.specs.Received.{IsReceived}
use Rattle.cip_unconnected.specs.declared.unconnected.TheConstants.{UNCONNECTED_SEND}
use Rattle.cip_unconnected.specs.Unconnected.{Unconnected, unconnected_with, unconnected_bytes}
use Rattle.cip_unconnected.specs.UnconnectedAt.{unconnected_at}

-- the record that goes on: one tick less, and what is left of the route
abbrev pub lowered : Unconnected → Octets → Unconnected
lowered u rest = unconnected_with (one_less u.timing) u.request rest

-- What goes on: the embedded request itself where no route is left behind the hop, else an
-- Unconnected_Send with what is left.
abbrev pub message_on : Unconnected → Octets → Octets
message_on u rest = if length rest == 0 then u.request else unconnected_bytes (lowered u rest)

-- b is this Unconnected_Send as it came, and its route leads on by this hop
pub record IsSendGoingOn (b : Octets) (u : Unconnected) (hop : HopAt) : Type 0 where
  pub data_ : Octets
  pub request : IsReceived UNCONNECTED_SEND data_ b
  pub is : unconnected_at data_ ≡ Ok u
  pub leads : hop_of u.route ≡ Some hop
