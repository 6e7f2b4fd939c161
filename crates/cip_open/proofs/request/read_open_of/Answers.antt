use Rattle.std.proofs.Common.{arith}
use Rattle.cip_message.proofs.Readers.{is_read}
use Rattle.cip_open.specs.Reading.{open_of}
use Rattle.cip_open.specs.Open.{ReadsOpen, IsOpenFault}
use Rattle.cip_open.specs.OpenAt.{open_at}
use Rattle.cip_open.proofs.Opens.{open_verdict, open_read}
use Rattle.cip_open.proofs.request.read_open_of.Goals as goal

pub returns-clause-read : goal.returns-clause-read
returns-clause-read c =
    let large = c.args.large in
    is_read open_of (open_at large) (ReadsOpen large) (IsOpenFault large) c.args.data_.now c.view.result c.view.ensures.given
    (open_verdict large c.args.data_.now (λ i. omega (arith, c.type_inv.data_ i))) (open_read large c.args.data_.now)
