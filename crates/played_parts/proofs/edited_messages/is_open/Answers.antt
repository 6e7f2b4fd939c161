use Rattle.std.proofs.Common.{◌≡◌, Bool, Ok, leb-true, subst, sym}
use Rattle.cip_message.specs.Received.{IsReceived}
use Rattle.cip_open.specs.Kinds.{open_service}
use Rattle.cip_open.specs.OpenAt.{open_at}
use Rattle.cip_open.specs.Reading.{open_of}
use Rattle.cip_open.proofs.ReadAgain.{large_read}
use Rattle.played_parts.proofs.edited_messages.is_open.Goals as goal

pub returns-in-Some-left : goal.returns-in-Some-left
returns-in-Some-left c =
    λ enough.
    let (hop, leads, rest) = c.in-Some-left.ensures in
    let d = c.in-Some.found.now in
    let o = open_of c.in-Ok.view in
    let large : o.fields.large ≡ c.args.large = large_read c.args.large d o c.in-Ok.ensures.read.gives in
    let came : IsReceived (open_service c.args.large) d c.args.bytes.now =
    subst (λ s. IsReceived s d c.args.bytes.now) c.open_service.ensures c.in-Some.ensures in (
      o,
      hop,
      record {
        data_ = d;
        request = subst (λ (l : Bool). IsReceived (open_service l) d c.args.bytes.now) (sym large) came;
        is = subst (λ (l : Bool). open_at l d ≡ Ok o) (sym large) c.in-Ok.ensures.read.gives;
        leads = leads;
      },
      leb-true _ _ enough,
    )
