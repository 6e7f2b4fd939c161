use Rattle.std.proofs.Common.{sym, subst, Result}
use Rattle.cip_message.specs.Received.{IsReceived}
use Rattle.cip_unconnected.specs.declared.unconnected.TheConstants.{UNCONNECTED_SEND}
use Rattle.cip_unconnected.specs.Unconnected.{Unconnected}
use Rattle.cip_unconnected.specs.Reading.{unconnected_of}
use Rattle.cip_unconnected.specs.declared.fault.UnconnectedFault.{UnconnectedFault}
use Rattle.cip_routing.specs.UnconnectedRows.{unconnected_row}
use Rattle.cip_steps.specs.Code.Device.{state_of_device}
use Rattle.cip_steps.specs.Code.Reacts.{Reacts, SendCame}
use Rattle.cip_routing.specs.Table.{unconnected_effects, unconnected_data_effects}
use Rattle.cip_steps.proofs.InPlace.{narrowed}
use Rattle.cip_steps.proofs.device.Device.unconnected_send.Goals as goal

pub returns-in-Ok : goal.returns-in-Ok
returns-in-Ok c =
    let m = c.args.self.now in
    let new = c.unconnected.new.self in
    let d = c.args.data_.now in
    let u = unconnected_of c.in-Ok.view in
    subst (λ (r : Result Unconnected UnconnectedFault). Reacts c.args.making (IsReceived UNCONNECTED_SEND d) m new
    (unconnected_data_effects m.config (state_of_device m) c.args.up d r) c.unconnected.result) (sym c.in-Ok.ensures.read.gives)
    (narrowed m new c.args.making (SendCame u) (IsReceived UNCONNECTED_SEND d) (unconnected_effects c.args.up u (unconnected_row m.config m.pendings u))
    c.unconnected.result (λ came received. (d, received, c.in-Ok.ensures.read.gives)) c.unconnected.ensures.reacts)
