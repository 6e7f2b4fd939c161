use Rattle.std.proofs.Common.{arith}
use Rattle.cip_message.proofs.Readers.{is_read}
use Rattle.cip_open.specs.Reading.{success_of}
use Rattle.cip_open.specs.Success.{ReadsOpenReply, IsOpenReplyFault}
use Rattle.cip_open.specs.SuccessAt.{open_reply_at}
use Rattle.cip_open.proofs.Successes.{open_reply_verdict, open_reply_read}
use Rattle.cip_open.proofs.success.read_open_reply.Goals as goal

pub returns-clause-read : goal.returns-clause-read
returns-clause-read c =
    is_read success_of open_reply_at ReadsOpenReply IsOpenReplyFault c.args.data_.now c.success.result c.success.ensures.given
    (open_reply_verdict c.args.data_.now (λ i. omega (arith, c.type_inv.data_ i))) (open_reply_read c.args.data_.now)
