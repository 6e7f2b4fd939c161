-- What reading data as that of a successful Forward_Close's reply gives: each field at its place.
use Rattle.std.specs.Prelude.{Result}
use Rattle.cip_base.specs.Words.{Octets}
use Rattle.cip_message.specs.declared.fault.DataFault.{DataFault}
use Rattle.cip_message.specs.Numbers.{triad_in}
use Rattle.cip_message.specs.Counted.{counted_at, with_part}
use Rattle.cip_close.specs.Success.{CloseSuccess}

abbrev pub close_success_in : Octets → Octets → CloseSuccess
close_success_in b reply = record { triad = triad_in b 0; reply = reply }

-- the record, or the first fault that fits: the size of the application reply is byte 8, and it
-- begins at byte 10
unfoldable pub close_reply_at : Octets → Result CloseSuccess DataFault
close_reply_at b = with_part (close_success_in b) (counted_at 8 10 b)
