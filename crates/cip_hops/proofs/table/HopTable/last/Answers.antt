use Rattle.std.proofs.Common.{subst}
use Rattle.cip_hops.specs.Hops.{IsWithin}
use Rattle.cip_hops.proofs.Steps.{within}
use Rattle.cip_hops.proofs.table.HopTable.last.Goals as goal

pub returns-clause-within : goal.returns-clause-within
returns-clause-within c = subst IsWithin c.self.view_is (within c.self.inside c.self.invariant)
