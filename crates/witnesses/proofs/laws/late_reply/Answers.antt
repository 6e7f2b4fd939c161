use Rattle.witnesses.proofs.LateReply.{late_reply}
use Rattle.witnesses.proofs.laws.late_reply.Goals as goal

pub returns : goal.returns
returns c = late_reply
