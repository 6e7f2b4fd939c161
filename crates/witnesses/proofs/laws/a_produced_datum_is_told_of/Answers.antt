use Rattle.witnesses.proofs.Told.{arrives, arrived_once}
use Rattle.witnesses.proofs.laws.a_produced_datum_is_told_of.Goals as goal

pub returns-clause-arrives : goal.returns-clause-arrives
returns-clause-arrives c = arrives

pub returns-clause-produced : goal.returns-clause-produced
returns-clause-produced c = arrived_once
