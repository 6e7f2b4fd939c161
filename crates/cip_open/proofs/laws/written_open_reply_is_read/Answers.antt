use Rattle.std.proofs.Common.{[]}
use Rattle.cip_message.proofs.Replies.{reply_back}
use Rattle.cip_open.specs.Kinds.{open_reply_service}
use Rattle.cip_open.specs.Success.{open_reply_data}
use Rattle.cip_open.proofs.Services.{reply_service_high}
use Rattle.cip_open.proofs.Successes.{open_reply_back}
use Rattle.cip_open.proofs.ReadAgain.{open_success_read}
use Rattle.cip_open.proofs.laws.written_open_reply_is_read.Goals as goal

pub returns-clause-reply : goal.returns-clause-reply
returns-clause-reply c =
    λ large s. reply_back (record { service = open_reply_service large; general = 0; extra = []; data_ = open_reply_data s }) (reply_service_high large)

pub returns-clause-data_ : goal.returns-clause-data_
returns-clause-data_ c = open_reply_back

pub returns-clause-alone : goal.returns-clause-alone
returns-clause-alone c = open_success_read
