use Rattle.std.proofs.Common.{arith}
use Rattle.cip_message.proofs.Readers.{is_read}
use Rattle.cip_message.specs.Reading.{reply_of}
use Rattle.cip_message.specs.Reply.{ReadsReply, IsReplyFault}
use Rattle.cip_message.specs.ReplyAt.{reply_at}
use Rattle.cip_message.proofs.Replies.{reply_verdict, reply_read}
use Rattle.cip_message.proofs.reply.read_reply.Goals as goal

pub returns : goal.returns
returns c =
    is_read reply_of reply_at ReadsReply IsReplyFault c.args.bytes.now c.reply.result c.reply.ensures
    (reply_verdict c.args.bytes.now (λ i. omega (arith, c.type_inv.bytes i))) (reply_read c.args.bytes.now)
