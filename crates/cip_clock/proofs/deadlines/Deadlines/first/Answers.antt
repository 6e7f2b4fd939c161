use Rattle.std.proofs.Common.{◌≡◌, ◌+◌, ◌-◌, ℕ, List, get_or, sym, ap, ◌∙◌, arith}
use Rattle.std.proofs.lemmas.List.{get_or-drop}
use Rattle.cip_clock.proofs.Tree.{top_least}
use Rattle.cip_clock.proofs.deadlines.Deadlines.first.Goals as goal

pub returns-clause-least : goal.returns-clause-least
returns-clause-least c = λ key lt.
    let times = c.self.inside.times.items in
    let room = c.self.inside.room in
    let low = top_least times room c.self.invariant.1 c.self.invariant.2 c.self.invariant.0 c.args.self.now c.self.view_is key lt in
    let there : room + (c.loop-at.at - room) ≡ c.loop-at.at = omega arith in
    let here : get_or c.args.self.now (c.loop-at.at - room) 0 ≡ get_or times c.loop-at.at 0 =
    ap (λ (xs : List ℕ). get_or xs (c.loop-at.at - room) 0) (sym c.self.view_is)
    ∙ get_or-drop room times (c.loop-at.at - room) 0 ∙ ap (λ k. get_or times k 0) there in
    omega (arith, low, here, c.loop-at.invariant.least)
