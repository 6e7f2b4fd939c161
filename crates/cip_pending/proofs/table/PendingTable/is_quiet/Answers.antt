use Rattle.std.proofs.Common.{sym, ap, ◌∙◌}
use Rattle.cip_pending.specs.Pendings.{due}
use Rattle.cip_pending.proofs.Quiet.{nothing_due}
use Rattle.cip_pending.proofs.table.PendingTable.is_quiet.Goals as goal

pub returns : goal.returns
returns c = λ quiet. ap (due c.args.now) (sym c.self.view_is) ∙ nothing_due c.self.inside c.self.invariant c.args.now (c.is_quiet.ensures quiet)
