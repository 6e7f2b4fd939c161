use Rattle.cip_message.proofs.Replies.{reply_back}
use Rattle.cip_message.proofs.laws.written_reply_is_read.Goals as goal

pub returns : goal.returns
returns c = reply_back
