use Rattle.cip_message.specs.Failure.{failure_data}
use Rattle.cip_message.specs.Reply.{extra_words}
use Rattle.cip_message.proofs.Replies.{reply_back}
use Rattle.cip_open.specs.Kinds.{open_reply_service}
use Rattle.cip_open.proofs.Services.{reply_service_high}
use Rattle.cip_open.proofs.laws.written_open_failure_is_read.Goals as goal

pub returns : goal.returns
returns c =
    λ large s f. reply_back (record { service = open_reply_service large; general = s.general; extra = extra_words s.extra; data_ = failure_data f })
    (reply_service_high large)
