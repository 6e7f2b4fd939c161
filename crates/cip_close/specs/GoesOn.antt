-- What goes on of a Forward_Close (Volume 1, chapter 3, Forward_Close).
use Rattle.std.specs.Prelude.{◌≡◌, Ok, Some}
use Rattle.cip_base.specs.Words.{Octets}
use Rattle.cip_base.specs.Timings.{one_less}
use Rattle.cip_segment.specs.Reading.{HopAt, hop_of}
use Rattle.cip_message.specs.Received.{IsReceived}
use Rattle.cip_close.specs.declared.request.TheConstants.{FORWARD_CLOSE}
use Rattle.cip_close.specs.Close.{Close, close_with, close_bytes}
use Rattle.cip_close.specs.CloseAt.{close_at}

-- the record that goes on: one tick less, and what is left of the path
abbrev pub lowered : Close → Octets → Close
lowered c rest = close_with (record c.fields { timing = one_less c.fields.timing }) rest

-- the message that goes on
abbrev pub close_on : Close → Octets → Octets
close_on c rest = close_bytes (lowered c rest)

-- b is this Forward_Close as it came, and its path leads on by this hop
pub record IsCloseGoingOn (b : Octets) (c : Close) (hop : HopAt) : Type 0 where
  pub data_ : Octets
  pub request : IsReceived FORWARD_CLOSE data_ b
  pub is : close_at data_ ≡ Ok c
  pub leads : hop_of c.path ≡ Some hop
