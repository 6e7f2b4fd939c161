use Rattle.std.proofs.Common.{◌≡◌, sym, subst, Bool, Result, Ok, List}
use Rattle.cip_message.specs.Received.{IsReceived}
use Rattle.cip_message.specs.declared.fault.DataFault.{DataFault}
use Rattle.cip_open.specs.Kinds.{open_service}
use Rattle.cip_open.specs.Open.{Open}
use Rattle.cip_open.specs.OpenAt.{open_at}
use Rattle.cip_open.proofs.ReadAgain.{large_read}
use Rattle.cip_open.specs.Reading.{open_of}
use Rattle.cip_routing.specs.OpenRows.{open_row}
use Rattle.cip_routing.specs.Effects.{Effect}
use Rattle.cip_steps.specs.Code.Device.{state_of_device}
use Rattle.cip_steps.specs.Code.Reacts.{Reacts, OpenCame}
use Rattle.cip_routing.specs.Table.{up_side_of, open_effects, open_data_effects}
use Rattle.cip_steps.proofs.InPlace.{narrowed}
use Rattle.cip_steps.proofs.Spending.{asked_alone}
use Rattle.cip_steps.proofs.device.Device.forward_open.Goals as goal

pub returns-in-Ok : goal.returns-in-Ok
returns-in-Ok c =
    let m = c.args.self.now in
    let new = c.open.new.self in
    let up = c.args.up in
    let d = c.args.data_.now in
    let q = open_of c.in-Ok.view in
    let large = c.args.large in
    let gives : open_at large d ≡ Ok q = c.in-Ok.ensures.read.gives in
    let same : q.fields.large ≡ large = large_read large d q gives in
    let es = open_effects (state_of_device m) up q (open_row m.config (state_of_device m) (up_side_of up q.fields.to_id) q) in
    let P : List Effect → Type 0 = λ es. Reacts c.args.making (OpenCame q) m new es c.open.result in
    subst (λ (r : Result Open DataFault).
    Reacts c.args.making (IsReceived (open_service large) d) m new (open_data_effects m.config (state_of_device m) up large d r) c.open.result) (sym gives)
    (narrowed m new c.args.making (OpenCame q) (IsReceived (open_service large) d) es c.open.result
    (λ came received. (
      d,
      subst (λ (l : Bool). IsReceived (open_service l) d came) (sym same) received,
      subst (λ (l : Bool). open_at l d ≡ Ok q) (sym same) gives,
    ))
    (asked_alone P up es c.requires c.open.ensures))
