use Rattle.std.proofs.Common.{sym, subst}
use Rattle.cip_event.specs.declared.event.Command.{Command}
use Rattle.cip_steps.specs.Code.Device.{state_of_device}
use Rattle.cip_steps.specs.Code.Reacts.{ReactsWhole}
use Rattle.cip_routing.specs.Table.{command_effects}
use Rattle.cip_module.proofs.dispatch.command_step.Goals as goal

pub returns-in-Close : goal.returns-in-Close
returns-in-Close c =
    let m = c.args.device.now in
    subst (λ (x : Command). ReactsWhole m c.close_command.new.self (command_effects m.config (state_of_device m) x) c.close_command.result)
    (sym c.in-Close.is) c.close_command.ensures
