use Rattle.cip_message.proofs.Managers.{manager_is_read}
use Rattle.cip_message.proofs.laws.written_manager_request_is_read.Goals as goal

pub returns : goal.returns
returns c = manager_is_read
