use Rattle.std.proofs.Common.{leb-true}
use Rattle.cip_close.specs.Reading.{close_of}
use Rattle.played_parts.proofs.edited_messages.is_close.Goals as goal

pub returns-in-Some-left : goal.returns-in-Some-left
returns-in-Some-left c =
    λ enough.
    let (hop, leads, rest) = c.in-Some-left.ensures in (
      close_of c.in-Ok.view,
      hop,
      record { data_ = c.in-Some.found.now; request = c.in-Some.ensures; is = c.in-Ok.ensures.gives; leads = leads },
      leb-true _ _ enough,
    )
