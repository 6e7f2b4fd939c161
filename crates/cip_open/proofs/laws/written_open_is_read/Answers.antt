use Rattle.cip_message.proofs.Managers.{manager_is_read}
use Rattle.cip_open.specs.Kinds.{open_service}
use Rattle.cip_open.specs.Open.{open_data}
use Rattle.cip_open.proofs.Services.{service_low}
use Rattle.cip_open.proofs.Opens.{open_back}
use Rattle.cip_open.proofs.ReadAgain.{open_data_read}
use Rattle.cip_open.proofs.laws.written_open_is_read.Goals as goal

pub returns-clause-request : goal.returns-clause-request
returns-clause-request c = λ o. manager_is_read (open_service o.fields.large) (open_data o) (service_low o.fields.large)

pub returns-clause-data_ : goal.returns-clause-data_
returns-clause-data_ c = open_back

pub returns-clause-alone : goal.returns-clause-alone
returns-clause-alone c = open_data_read
