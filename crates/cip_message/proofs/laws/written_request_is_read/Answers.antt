use Rattle.cip_message.proofs.Requests.{request_back}
use Rattle.cip_message.proofs.laws.written_request_is_read.Goals as goal

pub returns : goal.returns
returns c = request_back
