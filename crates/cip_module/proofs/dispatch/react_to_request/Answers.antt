use Rattle.std.proofs.Common.{refl}
use Rattle.cip_pending.specs.declared.entry.UpSide.TheVariants.{Link}
use Rattle.cip_event.specs.declared.event.Body.TheVariants.{Request}
use Rattle.cip_event.specs.declared.event.Event.TheVariants.{Frame}
use Rattle.cip_routing.specs.RequestRows.{request_row}
use Rattle.cip_steps.specs.Code.Device.{state_of_device}
use Rattle.cip_routing.specs.Table.{request_effects}
use Rattle.cip_module.proofs.Stepped.{stepped_on, kept_on}
use Rattle.cip_module.proofs.dispatch.react_to_request.Goals as goal

pub returns-clause-done : goal.returns-clause-done
returns-clause-done c =
    let m = c.args.device.now in
    stepped_on m c.request.new.self c.args.bytes.now (request_effects m.config (state_of_device m) (Link c.args.port c.args.from.now c.args.number)
    (request_row m.config c.args.port c.args.bytes.now)) (Frame c.args.port c.args.from.now (Request c.args.number c.args.bytes.now)) refl c.request.result
    c.request.ensures

pub returns-clause-config : goal.returns-clause-config
returns-clause-config c =
    let m = c.args.device.now in
    kept_on m c.request.new.self c.args.bytes.now (request_effects m.config (state_of_device m) (Link c.args.port c.args.from.now c.args.number)
    (request_row m.config c.args.port c.args.bytes.now)) (Frame c.args.port c.args.from.now (Request c.args.number c.args.bytes.now)) refl c.request.result
    c.request.ensures
