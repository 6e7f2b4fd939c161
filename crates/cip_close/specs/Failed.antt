-- The reply of a failed Forward_Close (Volume 1, chapter 3, Forward_Close, unsuccessful response).
use Rattle.cip_base.specs.Words.{Octets}
use Rattle.cip_base.specs.declared.timing.Status.{Status}
use Rattle.cip_close.specs.declared.request.TheConstants.{FORWARD_CLOSE_REPLY}
use Rattle.cip_message.specs.declared.failure.ConnectionFailure.{ConnectionFailure}
use Rattle.cip_message.specs.Failure.{failure_bytes}

-- the whole message
abbrev pub close_failure_bytes : Status → ConnectionFailure → Octets
close_failure_bytes s f = failure_bytes FORWARD_CLOSE_REPLY s f
