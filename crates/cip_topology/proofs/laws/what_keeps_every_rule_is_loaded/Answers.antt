use Rattle.cip_topology.proofs.Loaded.{loaded}
use Rattle.cip_topology.proofs.laws.what_keeps_every_rule_is_loaded.Goals as goal

pub returns : goal.returns
returns c = loaded
