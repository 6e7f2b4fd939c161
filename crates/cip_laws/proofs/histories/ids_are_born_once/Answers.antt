use Rattle.cip_laws.proofs.Births.{held_born, born_once, birth_range}
use Rattle.cip_laws.proofs.RequestBy.{born_tells}
use Rattle.cip_laws.proofs.histories.ids_are_born_once.Goals as goal

pub returns-clause-born : goal.returns-clause-born
returns-clause-born c = held_born

pub returns-clause-once : goal.returns-clause-once
returns-clause-once c = λ config turns h o p ids own id a b has too. born_once config o p ids own turns id h a b has too

pub returns-clause-asked : goal.returns-clause-asked
returns-clause-asked c = born_tells

pub returns-clause-drawn : goal.returns-clause-drawn
returns-clause-drawn c = λ config o ids before turn id h b has. birth_range config o ids before turn id h b has
