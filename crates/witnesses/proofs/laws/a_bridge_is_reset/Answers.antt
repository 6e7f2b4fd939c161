use Rattle.witnesses.proofs.ResetBridge.{reset_bridge}
use Rattle.witnesses.proofs.laws.a_bridge_is_reset.Goals as goal

pub returns : goal.returns
returns c = reset_bridge
