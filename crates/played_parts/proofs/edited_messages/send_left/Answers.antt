use Rattle.std.proofs.Common.{ap, length, arith, List, ℕ}
use Rattle.cip_unconnected.specs.Reading.{unconnected_of}
use Rattle.played_parts.proofs.edited_messages.send_left.Goals as goal

pub returns-then-view-ge1 : goal.returns-then-view-ge1
returns-then-view-ge1 c =
    let (hop, leads, rest) = c.in-Some-left.ensures in (
      unconnected_of c.in-Ok.view,
      hop,
      record { data_ = c.in-Some.found.now; request = c.in-Some.ensures; is = c.in-Ok.ensures.read.gives; leads = leads },
      c.if-view-ge1.true,
      ap (λ (z : List ℕ). length z) rest,
    )
