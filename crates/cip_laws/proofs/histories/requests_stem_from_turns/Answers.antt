use Rattle.cip_laws.proofs.Asking.{stems}
use Rattle.cip_laws.proofs.histories.requests_stem_from_turns.Goals as goal

pub returns : goal.returns
returns c = stems
