use Rattle.std.proofs.Common.{sym, ◌∙◌, arith}
use Rattle.std.proofs.lemmas.List.{get_or_read}
use Rattle.cip_clock.proofs.Tree.{top_least, top_reached}
use Rattle.cip_clock.proofs.deadlines.Deadlines.least.Goals as goal

pub returns-clause-least : goal.returns-clause-least
returns-clause-least c = λ key lt.
    let times = c.self.inside.times.items in
    let low = top_least times c.self.inside.room c.self.invariant.1 c.self.invariant.2 c.self.invariant.0 c.args.self.now c.self.view_is key lt in
    let top = get_or_read times 1 c.index.result.now (omega arith) c.index.ensures 0 in
    omega (arith, low, top)

pub returns-clause-reached : goal.returns-clause-reached
returns-clause-reached c =
    let times = c.self.inside.times.items in
    let found = top_reached times c.self.inside.room c.self.invariant.1 c.self.invariant.2 c.self.invariant.0 c.args.self.now c.self.view_is in
    let top = get_or_read times 1 c.index.result.now (omega arith) c.index.ensures 0 in
    (found.0, found.1, found.2 ∙ sym top)
