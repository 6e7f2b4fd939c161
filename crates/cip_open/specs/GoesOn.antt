-- What goes on of an open, and what goes up of its success (Volume 1, chapter 3, Forward_Open and
-- Large_Forward_Open).
use Rattle.std.specs.Prelude.{◌≡◌, Bool, Ok, Some}
use Rattle.cip_base.specs.Words.{ConnectionId, Octets}
use Rattle.cip_base.specs.Timings.{one_less}
use Rattle.cip_segment.specs.Reading.{HopAt, hop_of}
use Rattle.cip_message.specs.Received.{IsReceived}
use Rattle.cip_message.specs.ReplyAt.{IsDone}
use Rattle.cip_open.specs.Kinds.{open_service, open_reply_service}
use Rattle.cip_open.specs.Open.{Open, open_with, open_bytes}
use Rattle.cip_open.specs.OpenAt.{open_at}
use Rattle.cip_open.specs.Success.{OpenSuccess, open_reply_bytes}
use Rattle.cip_open.specs.SuccessAt.{open_reply_at}

-- the record that goes on: one tick less, the own down id as T→O id, and what is left of the path
abbrev pub lowered : Open → ConnectionId → Octets → Open
lowered o down_id rest =
    open_with (record o.fields { timing = one_less o.fields.timing; to_id = down_id }) rest

-- the message that goes on
abbrev pub open_on : Open → ConnectionId → Octets → Octets
open_on o down_id rest = open_bytes (lowered o down_id rest)

-- b is this open as it came, and its path leads on by this hop
pub record IsOpenGoingOn (b : Octets) (o : Open) (hop : HopAt) : Type 0 where
  pub data_ : Octets
  pub request : IsReceived (open_service o.fields.large) data_ b
  pub is : open_at o.fields.large data_ ≡ Ok o
  pub leads : hop_of o.path ≡ Some hop

-- a success with these ids in place of its own
abbrev pub with_ids : OpenSuccess → ConnectionId → ConnectionId → OpenSuccess
with_ids s ot_id to_id = record s { ot_id = ot_id; to_id = to_id }

-- its message
abbrev pub success_with : Bool → OpenSuccess → ConnectionId → ConnectionId → Octets
success_with large s ot_id to_id = open_reply_bytes large (with_ids s ot_id to_id)

-- b is the reply of this success as it came, to an open that was large or not
pub record IsOpenSuccess (large : Bool) (b : Octets) (s : OpenSuccess) : Type 0 where
  pub data_ : Octets
  pub reply : IsDone (open_reply_service large) data_ b
  pub is : open_reply_at data_ ≡ Ok s
