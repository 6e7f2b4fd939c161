use Rattle.std.proofs.Common.{arith}
use Rattle.cip_message.proofs.Readers.{is_read}
use Rattle.cip_close.specs.Reading.{close_of}
use Rattle.cip_close.specs.Close.{ReadsClose, IsCloseFault}
use Rattle.cip_close.specs.CloseAt.{close_at}
use Rattle.cip_close.proofs.Closes.{close_verdict, close_read}
use Rattle.cip_close.proofs.request.read_close.Goals as goal

pub returns : goal.returns
returns c =
    is_read close_of close_at ReadsClose IsCloseFault c.args.data_.now c.view.result c.view.ensures
    (close_verdict c.args.data_.now (λ i. omega (arith, c.type_inv.data_ i))) (close_read c.args.data_.now)
