use Rattle.std.proofs.Common.{refl, Result, Ok}
use Rattle.cip_base.specs.declared.memory.NoMemory.{NoMemory}
use Rattle.cip_event.specs.declared.event.Body.TheVariants.{Reply}
use Rattle.cip_event.specs.declared.event.Event.TheVariants.{Frame}
use Rattle.cip_steps.specs.declared.reaction.Reaction.{Reaction}
use Rattle.cip_routing.specs.ReplyRows.{reply_row}
use Rattle.cip_steps.specs.Code.Device.{state_of_device}
use Rattle.cip_routing.specs.Table.{reply_effects}
use Rattle.cip_module.proofs.Stepped.{stepped_on, kept_on}
use Rattle.cip_module.proofs.dispatch.react_to_reply.Goals as goal

pub returns-clause-done : goal.returns-clause-done
returns-clause-done c =
    let m = c.args.device.now in
    let b = c.args.bytes.now in
    let r : Result Reaction NoMemory = Ok c.in-Ok.reaction in
    stepped_on m c.reply.new.self b (reply_effects c.args.number b (reply_row m.config (state_of_device m) c.args.port c.args.from.now c.args.number b))
    (Frame c.args.port c.args.from.now (Reply c.args.number b)) refl r c.in-Ok.ensures.reacts

pub returns-clause-config : goal.returns-clause-config
returns-clause-config c =
    let m = c.args.device.now in
    let b = c.args.bytes.now in
    let r : Result Reaction NoMemory = Ok c.in-Ok.reaction in
    kept_on m c.reply.new.self b (reply_effects c.args.number b (reply_row m.config (state_of_device m) c.args.port c.args.from.now c.args.number b))
    (Frame c.args.port c.args.from.now (Reply c.args.number b)) refl r c.in-Ok.ensures.reacts
