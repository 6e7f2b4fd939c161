use Rattle.cip_message.specs.Reading.{request_of}
use Rattle.cip_target.proofs.ReadsReset.{other_service}
use Rattle.cip_target.proofs.target.Target.reads_reset.Goals as goal

pub returns-else-request-eq5 : goal.returns-else-request-eq5
returns-else-request-eq5 c = other_service c.args.self.now.objects (request_of c.args.request) c.if-request-eq5.false
