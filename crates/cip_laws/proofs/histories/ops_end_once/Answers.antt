use Rattle.cip_laws.proofs.EndsOnce.{ended_once, last_of}
use Rattle.cip_laws.proofs.histories.ops_end_once.Goals as goal

pub returns-clause-ended : goal.returns-clause-ended
returns-clause-ended c = λ config turns h op. ended_once op config turns h

pub returns-clause-last : goal.returns-clause-last
returns-clause-last c = λ config later before turn h op has. last_of op config later before turn h has
