use Rattle.cip_world.proofs.Chassis.{chassis}
use Rattle.cip_world.proofs.Replies.{replied_once, replied_after, waits_unreplied}
use Rattle.cip_world.proofs.laws.a_request_gets_one_reply.Goals as goal

pub returns-clause-once : goal.returns-clause-once
returns-clause-once c t is j m config run there port n from = replied_once (chassis t is) j m config run there port n from

pub returns-clause-after : goal.returns-clause-after
returns-clause-after c t is j m config run there port n from = replied_after (chassis t is) j m config run there port n from

pub returns-clause-unreplied : goal.returns-clause-unreplied
returns-clause-unreplied c t is j m config run there port n from k p at same = waits_unreplied (chassis t is) j m config run there port n from k p at same
