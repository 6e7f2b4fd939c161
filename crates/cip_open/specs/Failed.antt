-- The reply of a failed open (Volume 1, chapter 3, Forward_Open and Large_Forward_Open,
-- unsuccessful response).
use Rattle.std.specs.Prelude.{Bool}
use Rattle.cip_base.specs.Words.{Octets}
use Rattle.cip_base.specs.declared.timing.Status.{Status}
use Rattle.cip_open.specs.Kinds.{open_reply_service}
use Rattle.cip_message.specs.declared.failure.ConnectionFailure.{ConnectionFailure}
use Rattle.cip_message.specs.Failure.{failure_bytes}

-- the whole message
abbrev pub open_failure_bytes : Bool → Status → ConnectionFailure → Octets
open_failure_bytes large s f = failure_bytes (open_reply_service large) s f
