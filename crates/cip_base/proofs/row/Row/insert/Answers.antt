use Rattle.std.proofs.Common.{◌≡◌, ◌≤◌, List, length, drop, sym, ap, subst, ◌∙◌, arith}
use Rattle.std.specs.List.{insert}
use Rattle.cip_base.specs.declared.row.Row.TheInside.{Inside}
use Rattle.cip_base.specs.Rows.{Row}
use Rattle.cip_base.specs.Behind.{row}
use Rattle.cip_base.proofs.Behind.{insert_behind}
use Rattle.cip_base.proofs.row.Row.insert.Goals as goal
use Rattle.cip_base.proofs.row.Row.insert.Goals.{then-len-capacity, else-len-capacity}

pub returns : goal.returns
returns g c =
    let IsBehind : Inside g.row.T.Denot → Type 0 = λ i. (i.gone ≤ length i.items.items) × (row i ≡ c.args.self.now) in
    let behind : IsBehind c.if-len-capacity.self-inside =
    elim c.if-len-capacity.branch [
      | then-len-capacity w ↦ subst IsBehind (sym w.self-inside-is)
          (omega arith, ap (λ xs. record { room = c.self.inside.room; items = xs }) w.move_up.ensures.items ∙ c.self.view_is)
      | else-len-capacity w ↦ subst IsBehind (sym w.self-inside-is) (c.self.invariant.within, c.self.view_is)
    ] in
    let with : List g.row.T.Denot → Row g.row.T.Denot = λ xs. record { room = c.if-len-capacity.self-inside.room; items = xs } in
    ap (λ xs. with (drop c.if-len-capacity.self-inside.gone xs)) c.in-Ok.ensures.items
    ∙ ap with (insert_behind c.if-len-capacity.self-inside.items.items c.if-len-capacity.self-inside.gone c.args.at c.args.item behind.0)
    ∙ ap (λ (r : Row g.row.T.Denot). record { room = r.room; items = insert r.items c.args.at c.args.item }) behind.1
