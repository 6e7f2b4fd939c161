use Rattle.std.proofs.Common.{arith, []}
use Rattle.cip_message.proofs.Replies.{reply_back}
use Rattle.cip_close.specs.Success.{close_reply_data}
use Rattle.cip_close.proofs.Successes.{close_reply_back}
use Rattle.cip_close.proofs.ReadAgain.{close_success_read}
use Rattle.cip_close.proofs.laws.written_close_reply_is_read.Goals as goal

pub returns-clause-reply : goal.returns-clause-reply
returns-clause-reply c = λ s. reply_back (record { service = 0xCE; general = 0; extra = []; data_ = close_reply_data s }) (omega arith)

pub returns-clause-data_ : goal.returns-clause-data_
returns-clause-data_ c = close_reply_back

pub returns-clause-alone : goal.returns-clause-alone
returns-clause-alone c = close_success_read
