-- What reading data as that of a successful Forward_Open's reply gives: each field at its place.
use Rattle.std.specs.Prelude.{Result}
use Rattle.cip_base.specs.Words.{Octets}
use Rattle.cip_message.specs.declared.fault.DataFault.{DataFault}
use Rattle.cip_message.specs.Numbers.{double_in, triad_in}
use Rattle.cip_message.specs.Counted.{counted_at, with_part}
use Rattle.cip_open.specs.Success.{OpenSuccess}

abbrev pub open_success_in : Octets → Octets → OpenSuccess
open_success_in b reply = record {
  ot_id = double_in b 0;
  to_id = double_in b 4;
  triad = triad_in b 8;
  ot_api = double_in b 16;
  to_api = double_in b 20;
  reply = reply;
}

-- the record, or the first fault that fits: the size of the application reply is byte 24, and it
-- begins at byte 26
unfoldable pub open_reply_at : Octets → Result OpenSuccess DataFault
open_reply_at b = with_part (open_success_in b) (counted_at 24 26 b)
