use Rattle.cip_open.proofs.Parts.{small_parts, large_parts}
use Rattle.cip_open.proofs.laws.parameters_have_their_parts.Goals as goal

pub returns-clause-small : goal.returns-clause-small
returns-clause-small c = small_parts

pub returns-clause-large : goal.returns-clause-large
returns-clause-large c = large_parts
