use Rattle.std.proofs.Common.{sym, subst, Result, List}
use Rattle.cip_message.specs.Received.{IsReceived}
use Rattle.cip_message.specs.declared.fault.DataFault.{DataFault}
use Rattle.cip_close.specs.declared.request.TheConstants.{FORWARD_CLOSE}
use Rattle.cip_close.specs.Close.{Close}
use Rattle.cip_close.specs.Reading.{close_of}
use Rattle.cip_pending.specs.declared.entry.UpSide.{UpSide}
use Rattle.cip_routing.specs.CloseRows.{close_row}
use Rattle.cip_routing.specs.Effects.{Effect}
use Rattle.cip_steps.specs.Code.Device.{state_of_device}
use Rattle.cip_steps.specs.Code.Reacts.{Reacts, CloseCame}
use Rattle.cip_routing.specs.Table.{close_effects, close_data_effects, with_spending}
use Rattle.cip_steps.proofs.InPlace.{narrowed}
use Rattle.cip_steps.proofs.Spending.{asked_alone}
use Rattle.cip_steps.proofs.device.Device.forward_close.Goals as goal

pub returns-in-Ok : goal.returns-in-Ok
returns-in-Ok c =
    let m = c.args.self.now in
    let new = c.close.new.self in
    let up = c.args.up in
    let d = c.args.data_.now in
    let q = close_of c.in-Ok.view in
    let P : List Effect → Type 0 = λ es. Reacts c.args.making (CloseCame q) m new es c.close.result in
    subst (λ (r : Result Close DataFault). Reacts c.args.making (IsReceived FORWARD_CLOSE d) m new (close_data_effects (state_of_device m) up d r)
    c.close.result)
    (sym c.in-Ok.ensures.gives)
    (narrowed m new c.args.making (CloseCame q) (IsReceived FORWARD_CLOSE d) (close_effects up q (close_row (state_of_device m) up q)) c.close.result
    (λ came received. (d, received, c.in-Ok.ensures.gives))
    (asked_alone P up (close_effects up q (close_row (state_of_device m) up q)) c.requires
    (subst (λ (sender : UpSide). P (with_spending up (close_effects up q (close_row (state_of_device m) sender q)))) c.copy-sender.ensures c.close.ensures)))
