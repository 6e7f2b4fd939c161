use Rattle.std.proofs.Common.{refl}
use Rattle.witnesses.proofs.Told.{close_taken, close_trails}
use Rattle.witnesses.proofs.laws.a_close_is_told_of.Goals as goal

pub returns-clause-closes : goal.returns-clause-closes
returns-clause-closes c = refl

pub returns-clause-taken : goal.returns-clause-taken
returns-clause-taken c = close_taken

pub returns-clause-trail : goal.returns-clause-trail
returns-clause-trail c = close_trails
