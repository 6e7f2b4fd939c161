use Rattle.std.proofs.Common.{◌∙◌, ap}
use Rattle.cip_routing.specs.State.{is_spent}
use Rattle.cip_routing.proofs.OpsLemmas.{found_is}
use Rattle.cip_routing.proofs.spent.SpentOps.contains.Goals as goal

pub returns : goal.returns
returns c = c.is_ok.ensures.value ∙ found_is c.args.op c.deref.result.now c.place_of.result c.place_of.ensures ∙ ap (is_spent c.args.op) c.deref.ensures.value
