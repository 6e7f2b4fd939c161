use Rattle.std.proofs.Common.{refl, arith}
use Rattle.cip_open.specs.Reading.{success_of}
use Rattle.cip_routing.proofs.Receiving.{small_reply}
use Rattle.cip_routing.proofs.reply_rows.opened.Goals as goal

pub returns-then-eq-clause-leads : goal.returns-then-eq-clause-leads
returns-then-eq-clause-leads c =
    let small = small_reply c.args.data_.now (success_of c.in-Ok.success) (λ i. omega (arith, c.type_inv.data_ i)) c.in-Ok.ensures.read.found in
    (refl, small.0, small.1)
