use Rattle.std.proofs.Common.{sym, ap, ◌∙◌}
use Rattle.cip_hops.specs.Hops.{first_due}
use Rattle.cip_config.specs.declared.config.ModuleSettings.{ModuleSettings}
use Rattle.cip_routing.specs.Effects.{applied}
use Rattle.cip_steps.specs.Code.Device.{state_of_device}
use Rattle.cip_steps.specs.Code.Ticks.{hop_time_out}
use Rattle.cip_steps.proofs.TimeOuts.{hop_time_outs_end}
use Rattle.cip_steps.proofs.device.Device.clear_hops.Goals as goal

pub returns-clause-after : goal.returns-clause-after
returns-clause-after c =
    let m = c.loop.self in
    sym (c.loop.invariant.1
    ∙ hop_time_outs_end c.args.self.now.config c.args.now (state_of_device m) (state_of_device c.time_out_hop.new.self)
    (sym c.time_out_hop.ensures.value ∙ c.loop-test.false)
    (c.time_out_hop.ensures.after ∙ ap (λ (z : ModuleSettings). applied z (state_of_device m) (hop_time_out (first_due c.args.now m.hops))) c.loop.invariant.0))
