use Rattle.std.proofs.Common.{arith}
use Rattle.cip_message.proofs.Readers.{is_read}
use Rattle.cip_close.specs.Reading.{success_of}
use Rattle.cip_close.specs.Success.{ReadsCloseReply, IsCloseReplyFault}
use Rattle.cip_close.specs.SuccessAt.{close_reply_at}
use Rattle.cip_close.proofs.Successes.{close_reply_verdict, close_reply_read}
use Rattle.cip_close.proofs.success.read_close_reply.Goals as goal

pub returns : goal.returns
returns c =
    is_read success_of close_reply_at ReadsCloseReply IsCloseReplyFault c.args.data_.now c.success.result c.success.ensures
    (close_reply_verdict c.args.data_.now (λ i. omega (arith, c.type_inv.data_ i))) (close_reply_read c.args.data_.now)
