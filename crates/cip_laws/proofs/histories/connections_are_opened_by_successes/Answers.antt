use Rattle.cip_laws.proofs.Joined.{joined}
use Rattle.cip_laws.proofs.OpenedBelow.{hop_opened}
use Rattle.cip_laws.proofs.histories.connections_are_opened_by_successes.Goals as goal

pub returns-clause-waiting : goal.returns-clause-waiting
returns-clause-waiting c = joined

pub returns-clause-opened : goal.returns-clause-opened
returns-clause-opened c = hop_opened
