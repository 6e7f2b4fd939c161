use Rattle.std.proofs.Common.{ap, ◌∙◌}
use Rattle.std.specs.List.{find}
use Rattle.cip_routing.specs.Views.{is_row_by_op}
use Rattle.cip_routing.proofs.RowsFound.{row_found}
use Rattle.cip_routing.proofs.contract.Module.row_by_op.Goals as goal

pub returns : goal.returns
returns M c =
    let test = (is_row_by_op c.args.op) in
    c.by_op.ensures ∙ ap (find test) c.in_ok-tables.ensures.hops ∙ row_found test (M.Self.Module.state_of c.args.self.now).hops
