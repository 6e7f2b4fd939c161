use Rattle.cip_drawing.proofs.BandLaws.{told_twice}
use Rattle.cip_drawing.proofs.areas.Areas.cost.Goals as goal

pub returns : goal.returns
returns c =
    told_twice c.args.self.now.lines.items c.args.self.now.bands.items c.args.area c.args.before c.args.limit c.cost_in-cost.result c.cost_in.result
    c.ranges.limit.fits c.if-first-last.false c.cost_in-cost.ensures c.cost_in.ensures
