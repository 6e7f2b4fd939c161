use Rattle.cip_laws.proofs.DataOnce.{datum_of}
use Rattle.cip_laws.proofs.GaveBy.{gave_then}
use Rattle.cip_laws.proofs.GivenBy.{answered_by, ended_by}
use Rattle.cip_laws.proofs.Numbers.{request_number}
use Rattle.cip_laws.proofs.PassedBy.{passed_by}
use Rattle.cip_laws.proofs.RequestBy.{request_by}
use Rattle.cip_laws.proofs.effects.outputs_come_from_effects.Goals as goal

pub returns-clause-each : goal.returns-clause-each
returns-clause-each c = gave_then

pub returns-clause-requests : goal.returns-clause-requests
returns-clause-requests c = request_by

pub returns-clause-replies : goal.returns-clause-replies
returns-clause-replies c = answered_by

pub returns-clause-data_ : goal.returns-clause-data_
returns-clause-data_ c = passed_by

pub returns-clause-ends : goal.returns-clause-ends
returns-clause-ends c = ended_by

pub returns-clause-numbers : goal.returns-clause-numbers
returns-clause-numbers c = request_number

pub returns-clause-by_side : goal.returns-clause-by_side
returns-clause-by_side c = datum_of
