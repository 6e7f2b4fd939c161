use Rattle.std.proofs.Common.{reverse}
use Rattle.cip_world.proofs.Listed.{rest_rises}
use Rattle.cip_world.proofs.ledger.list_rest.Goals as goal

pub list_newest-requires-clause-rising : goal.list_newest-requires-clause-rising
list_newest-requires-clause-rising c =
    rest_rises c.args.topology.now (reverse c.args.entries.now) c.args.listed.now c.args.looked.now c.in-Some.newest.entry
    c.in-Some.newest.at.0 c.in-Some.newest.outputs.now
    c.requires.kept (c.in-Some.ensures.some)
