use Rattle.std.proofs.Common.{subst}
use Rattle.cip_pending.specs.Pendings.{IsWithin}
use Rattle.cip_pending.proofs.Steps.{within}
use Rattle.cip_pending.proofs.table.PendingTable.last.Goals as goal

pub returns-clause-within : goal.returns-clause-within
returns-clause-within c = subst IsWithin c.self.view_is (within c.self.inside c.self.invariant)
