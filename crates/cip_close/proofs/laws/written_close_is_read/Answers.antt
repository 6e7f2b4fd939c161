use Rattle.std.proofs.Common.{arith}
use Rattle.cip_message.proofs.Managers.{manager_is_read}
use Rattle.cip_close.specs.Close.{close_data}
use Rattle.cip_close.proofs.Closes.{close_back}
use Rattle.cip_close.proofs.ReadAgain.{close_data_read}
use Rattle.cip_close.proofs.laws.written_close_is_read.Goals as goal

pub returns-clause-request : goal.returns-clause-request
returns-clause-request c = λ o. manager_is_read 0x4E (close_data o) (omega arith)

pub returns-clause-data_ : goal.returns-clause-data_
returns-clause-data_ c = close_back

pub returns-clause-alone : goal.returns-clause-alone
returns-clause-alone c = close_data_read
