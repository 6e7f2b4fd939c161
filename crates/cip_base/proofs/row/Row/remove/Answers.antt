use Rattle.std.proofs.Common.{List, drop, sym, ap, ◌∙◌}
use Rattle.std.specs.List.{remove}
use Rattle.cip_base.specs.Rows.{Row}
use Rattle.cip_base.proofs.Behind.{first_goes, remove_behind}
use Rattle.cip_base.proofs.row.Row.remove.Goals as goal

pub returns-then-at-eq0 : goal.returns-then-at-eq0
returns-then-at-eq0 g c =
    let with : List g.row.T.Denot → Row g.row.T.Denot = λ xs. record { room = c.self.inside.room; items = xs } in
    ap with (first_goes c.self.inside.items.items c.self.inside.gone)
    ∙ ap (λ (r : Row g.row.T.Denot). record { room = r.room; items = remove r.items 0 }) c.self.view_is
    ∙ ap (λ at. record { room = c.args.self.now.room; items = remove c.args.self.now.items at }) (sym c.if-at-eq0.true)

pub returns-else-at-eq0 : goal.returns-else-at-eq0
returns-else-at-eq0 g c =
    let with : List g.row.T.Denot → Row g.row.T.Denot = λ xs. record { room = c.self.inside.room; items = xs } in
    ap (λ xs. with (drop c.self.inside.gone xs)) c.remove.ensures.items
    ∙ ap with (remove_behind c.self.inside.items.items c.self.inside.gone c.args.at c.self.invariant.within)
    ∙ ap (λ (r : Row g.row.T.Denot). record { room = r.room; items = remove r.items c.args.at }) c.self.view_is
