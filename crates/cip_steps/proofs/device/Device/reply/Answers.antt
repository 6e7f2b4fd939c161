use Rattle.std.proofs.Common.{◌≡◌, false, sym, ap, ◌∙◌}
use Rattle.cip_open.specs.Reading.{success_of}
use Rattle.cip_config.specs.declared.config.ModuleSettings.{ModuleSettings}
use Rattle.cip_routing.specs.RequestRows.{is_malformed}
use Rattle.cip_steps.specs.Code.Device.{state_of_device}
use Rattle.cip_steps.proofs.InPlace.{row_is, finished_up, passed_up}
use Rattle.cip_steps.proofs.device.Device.reply.Goals as goal

pub returns-in-Some-finishes-clause-reacts : goal.returns-in-Some-finishes-clause-reacts
returns-in-Some-finishes-clause-reacts c =
    let m = c.args.self.now in
    let b = c.args.bytes.now in
    let fits : is_malformed m.config c.args.port b ≡ false =
    ap (λ (config : ModuleSettings). is_malformed config c.args.port b) (sym c.settings.ensures.value) ∙ sym c.is_malformed.ensures
    ∙ c.if-is_malformed.false in
    finished_up m c.finishes.new.self c.args.making c.args.port c.args.number c.args.from.now b c.in-Some.entry.now c.in-Some-finishes.up
    c.in_ok-made-in-OpenSucceeded.made c.reply_to.result c.with.result c.in-Some.ensures c.in-Some-finishes.ensures.value c.reply_to.ensures c.with.ensures
    c.in-Some-finishes.ensures.config
    c.is_large.result c.in-OpenSucceeded.triad (success_of c.in-OpenSucceeded.success) c.is_large.ensures
    (c.in-OpenSucceeded.ensures.row
    ∙ row_is m.config (state_of_device m) c.args.port c.args.from.now c.args.number b c.in-Some.entry.now fits c.in-Some.ensures)
    c.in_ok-made-in-OpenSucceeded.ensures.made c.in-Some-finishes.ensures.after

pub returns-in-Some-takes-clause-reacts : goal.returns-in-Some-takes-clause-reacts
returns-in-Some-takes-clause-reacts c =
    let m = c.args.self.now in
    let b = c.args.bytes.now in
    let fits : is_malformed m.config c.args.port b ≡ false =
    ap (λ (config : ModuleSettings). is_malformed config c.args.port b) (sym c.settings.ensures.value) ∙ sym c.is_malformed.ensures
    ∙ c.if-is_malformed.false in
    passed_up m c.takes.new.self c.args.making c.args.port c.args.number c.args.from.now b c.in-Some.entry.now c.in-Some-takes.up c.in_ok-made-in-PassedUp.made
    c.reply_to-in-PassedUp.result c.with-in-PassedUp.result c.in-Some.ensures c.in-Some-takes.ensures.value
    c.reply_to-in-PassedUp.ensures c.with-in-PassedUp.ensures c.in-Some-takes.ensures.config
    (c.in-PassedUp.ensures.row
    ∙ row_is m.config (state_of_device m) c.args.port c.args.from.now c.args.number b c.in-Some.entry.now fits c.in-Some.ensures)
    c.in_ok-made-in-PassedUp.ensures.made c.in-Some-takes.ensures.after
