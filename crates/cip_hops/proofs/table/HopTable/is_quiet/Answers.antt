use Rattle.std.proofs.Common.{sym, ap, ◌∙◌}
use Rattle.cip_hops.specs.Hops.{due}
use Rattle.cip_hops.proofs.Quiet.{none_due}
use Rattle.cip_hops.proofs.table.HopTable.is_quiet.Goals as goal

pub returns : goal.returns
returns c = λ quiet. ap (due c.args.now) (sym c.self.view_is) ∙ none_due c.self.inside c.self.invariant c.args.now (c.is_quiet.ensures quiet)
