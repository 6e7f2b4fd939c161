use Rattle.std.specs.FinMap as map
use Rattle.cip_hops.proofs.Changes.{touch_suits, touch_is}
use Rattle.cip_hops.proofs.table.HopTable.touch.Goals as goal

pub change-requires : goal.change-requires
change-requires c = touch_suits c.args.side c.args.now (map.get c.args.self.now.held c.args.triad.now) c.requires.link c.requires.time

pub returns : goal.returns
returns c =
    touch_is c.args.self.now c.change.new.self c.args.triad.now c.args.side c.args.now (map.get c.args.self.now.held c.args.triad.now)
    c.requires.link c.change.ensures
