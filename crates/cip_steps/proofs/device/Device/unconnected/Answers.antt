use Rattle.std.proofs.Common.{ap, ◌∙◌}
use Rattle.cip_unconnected.specs.Reading.{unconnected_of}
use Rattle.cip_config.specs.declared.config.ModuleSettings.{ModuleSettings}
use Rattle.cip_routing.specs.UnconnectedRows.{unconnected_row}
use Rattle.cip_steps.proofs.InPlace.{sent}
use Rattle.cip_steps.proofs.device.Device.unconnected.Goals as goal

pub returns-in_ok-made-in-Forwarded-clause-reacts : goal.returns-in_ok-made-in-Forwarded-clause-reacts
returns-in_ok-made-in-Forwarded-clause-reacts c =
    let m = c.args.self.now in
    let asked = unconnected_of c.args.view in
    sent m c.send_on-output.new.self c.args.making c.send_on-output.result c.args.up asked c.in-Forwarded.port c.in-Forwarded.address
    c.in-Forwarded.rest.bytes.now c.in_ok-made-in-Forwarded.made c.with.result
    (c.in-Forwarded.ensures.row ∙ ap (λ (config : ModuleSettings). unconnected_row config m.pendings asked) c.settings.ensures.value)
    c.in_ok-made-in-Forwarded.ensures c.send_on-output.ensures.handled c.with.ensures
