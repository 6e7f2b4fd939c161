use Rattle.cip_laws.proofs.Shown.{looks_alike, equal_bare}
use Rattle.cip_laws.proofs.views.views_tell_states.Goals as goal

pub returns-clause-alike : goal.returns-clause-alike
returns-clause-alike c = looks_alike

pub returns-clause-equal : goal.returns-clause-equal
returns-clause-equal c = equal_bare
