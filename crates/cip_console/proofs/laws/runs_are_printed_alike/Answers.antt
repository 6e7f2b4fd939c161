use Rattle.std.proofs.Common.{refl}
use Rattle.cip_console.proofs.Alike.{text_ends}
use Rattle.cip_console.proofs.laws.runs_are_printed_alike.Goals as goal

pub returns-clause-entries : goal.returns-clause-entries
returns-clause-entries c names entries entry = text_ends names entries entry

pub returns-clause-quiet : goal.returns-clause-quiet
returns-clause-quiet c = refl

pub returns-clause-limit : goal.returns-clause-limit
returns-clause-limit c first others = refl
