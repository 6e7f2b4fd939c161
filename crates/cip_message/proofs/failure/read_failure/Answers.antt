use Rattle.std.proofs.Common.{arith}
use Rattle.cip_message.proofs.Readers.{is_read}
use Rattle.cip_message.specs.Failure.{ReadsFailure, IsFailureFault, failure_at}
use Rattle.cip_message.proofs.Failures.{failure_verdict, failure_read}
use Rattle.cip_message.proofs.failure.read_failure.Goals as goal

pub returns : goal.returns
returns c =
    is_read (λ f. f) failure_at ReadsFailure IsFailureFault c.args.data_.now c.failure.result c.failure.ensures
    (failure_verdict c.args.data_.now (λ i. omega (arith, c.type_inv.data_ i))) (failure_read c.args.data_.now)
