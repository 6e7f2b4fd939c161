use Rattle.cip_base.proofs.Triads.{triads_total, exact_triads}
use Rattle.cip_base.proofs.laws.triads_are_ordered.Goals as goal

pub returns-clause-total : goal.returns-clause-total
returns-clause-total c = triads_total

pub returns-clause-told_apart : goal.returns-clause-told_apart
returns-clause-told_apart c = exact_triads
