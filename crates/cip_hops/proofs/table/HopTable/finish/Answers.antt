use Rattle.std.specs.FinMap as map
use Rattle.cip_hops.proofs.Changes.{finish_suits, finish_is}
use Rattle.cip_hops.proofs.table.HopTable.finish.Goals as goal

pub change-requires : goal.change-requires
change-requires c = finish_suits c.args.their_id c.args.now (map.get c.args.self.now.held c.args.triad.now) c.requires.opening c.requires.time

pub returns : goal.returns
returns c =
    finish_is c.args.self.now c.change.new.self c.args.triad.now c.args.their_id c.args.now (map.get c.args.self.now.held c.args.triad.now)
    c.requires.opening c.change.ensures
