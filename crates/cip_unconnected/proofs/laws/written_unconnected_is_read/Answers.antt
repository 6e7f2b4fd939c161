use Rattle.std.proofs.Common.{arith}
use Rattle.cip_message.proofs.Managers.{manager_is_read}
use Rattle.cip_unconnected.specs.Unconnected.{unconnected_data}
use Rattle.cip_unconnected.proofs.Unconnecteds.{unconnected_back}
use Rattle.cip_unconnected.proofs.ReadAgain.{unconnected_data_read}
use Rattle.cip_unconnected.proofs.laws.written_unconnected_is_read.Goals as goal

pub returns-clause-request : goal.returns-clause-request
returns-clause-request c = λ u. manager_is_read 0x52 (unconnected_data u) (omega arith)

pub returns-clause-data_ : goal.returns-clause-data_
returns-clause-data_ c = unconnected_back

pub returns-clause-alone : goal.returns-clause-alone
returns-clause-alone c = unconnected_data_read
