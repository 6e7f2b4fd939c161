use Rattle.cip_laws.proofs.Again.{number_range}
use Rattle.cip_laws.proofs.Numbers.{sent_once}
use Rattle.cip_laws.proofs.histories.numbers_are_born_once.Goals as goal

pub returns-clause-once : goal.returns-clause-once
returns-clause-once c = λ config turns h n. sent_once config n turns h

pub returns-clause-drawn : goal.returns-clause-drawn
returns-clause-drawn c = number_range
