use Rattle.std.proofs.lemmas.List.Sorted.{searched}
use Rattle.cip_routing.proofs.spent.place_of.Goals as goal

pub returns-in_default : goal.returns-in_default
returns-in_default c = searched c.args.ops.now c.args.op c.binary_search.result c.binary_search.ensures.position c.requires
