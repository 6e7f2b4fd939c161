use Rattle.witnesses.proofs.LapsedRun.{lapsed_run, older, stood, scanner_lacks, still, is_mirrored, mirrors}
use Rattle.witnesses.proofs.laws.a_lapsed_connection_is_mirrored.Goals as goal

pub returns-clause-run : goal.returns-clause-run
returns-clause-run c = lapsed_run

pub returns-clause-older : goal.returns-clause-older
returns-clause-older c = older

pub returns-clause-stood : goal.returns-clause-stood
returns-clause-stood c = stood

pub returns-clause-gone : goal.returns-clause-gone
returns-clause-gone c = scanner_lacks

pub returns-clause-stands : goal.returns-clause-stands
returns-clause-stands c = still

pub returns-clause-mirrored : goal.returns-clause-mirrored
returns-clause-mirrored c = is_mirrored

pub returns-clause-mirrors : goal.returns-clause-mirrors
returns-clause-mirrors c = mirrors
