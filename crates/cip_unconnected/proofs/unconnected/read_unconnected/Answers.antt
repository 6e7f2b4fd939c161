use Rattle.std.proofs.Common.{arith}
use Rattle.cip_message.proofs.Readers.{is_read}
use Rattle.cip_unconnected.specs.Reading.{unconnected_of}
use Rattle.cip_unconnected.specs.Unconnected.{ReadsUnconnected, IsUnconnectedFault}
use Rattle.cip_unconnected.specs.UnconnectedAt.{unconnected_at}
use Rattle.cip_unconnected.proofs.Unconnecteds.{unconnected_verdict, unconnected_read}
use Rattle.cip_unconnected.proofs.unconnected.read_unconnected.Goals as goal

pub returns-clause-read : goal.returns-clause-read
returns-clause-read c =
    is_read unconnected_of unconnected_at ReadsUnconnected IsUnconnectedFault c.args.data_.now c.unconnected.result c.unconnected.ensures.gives
    (unconnected_verdict c.args.data_.now (λ i. omega (arith, c.type_inv.data_ i))) (unconnected_read c.args.data_.now)
