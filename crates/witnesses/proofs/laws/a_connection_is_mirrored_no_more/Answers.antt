use Rattle.std.proofs.Common.{refl}
use Rattle.witnesses.proofs.ResetTold.{scanner_had, resets_in_run, mirrored_no_more}
use Rattle.witnesses.proofs.laws.a_connection_is_mirrored_no_more.Goals as goal

pub returns-clause-stood : goal.returns-clause-stood
returns-clause-stood c = scanner_had

pub returns-clause-names : goal.returns-clause-names
returns-clause-names c = refl

pub returns-clause-reset : goal.returns-clause-reset
returns-clause-reset c = resets_in_run

pub returns-clause-gone : goal.returns-clause-gone
returns-clause-gone c = mirrored_no_more
