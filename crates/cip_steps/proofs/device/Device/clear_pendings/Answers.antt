use Rattle.std.proofs.Common.{sym, ap, ◌∙◌}
use Rattle.cip_pending.specs.Pendings.{first_due}
use Rattle.cip_config.specs.declared.config.ModuleSettings.{ModuleSettings}
use Rattle.cip_routing.specs.Effects.{applied}
use Rattle.cip_steps.specs.Code.Device.{state_of_device}
use Rattle.cip_steps.specs.Code.Ticks.{pending_time_out}
use Rattle.cip_steps.proofs.TimeOuts.{pending_time_outs_end}
use Rattle.cip_steps.proofs.device.Device.clear_pendings.Goals as goal

pub returns-clause-after : goal.returns-clause-after
returns-clause-after c =
    let m = c.loop.self in
    sym (c.loop.invariant.2
    ∙ pending_time_outs_end c.args.self.now.config c.args.now (state_of_device m) (state_of_device c.time_out_pending.new.self)
    (sym c.time_out_pending.ensures.value ∙ c.loop-test.false)
    (c.time_out_pending.ensures.after ∙ ap (λ (z : ModuleSettings). applied z (state_of_device m) (pending_time_out (first_due c.args.now m.pendings)))
    c.loop.invariant.0))
