use Rattle.std.specs.FinMap as map
use Rattle.cip_hops.proofs.Changes.{count_suits, count_is}
use Rattle.cip_hops.proofs.table.HopTable.set_count.Goals as goal

pub change-requires : goal.change-requires
change-requires c = count_suits c.args.side c.args.count (map.get c.args.self.now.held c.args.triad.now) c.requires

pub returns : goal.returns
returns c =
    count_is c.args.self.now c.change.new.self c.args.triad.now c.args.side c.args.count (map.get c.args.self.now.held c.args.triad.now)
    c.requires c.change.ensures
