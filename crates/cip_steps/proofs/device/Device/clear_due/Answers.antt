use Rattle.std.proofs.Common.{List, sym, ap, ◌∙◌}
use Rattle.std.specs.Prelude.{map}
use Rattle.cip_hops.specs.declared.hop.Hop.{Hop}
use Rattle.cip_config.specs.declared.config.ModuleSettings.{ModuleSettings}
use Rattle.cip_routing.specs.Effects.{applied}
use Rattle.cip_steps.specs.Code.Device.{state_of_device}
use Rattle.cip_routing.specs.State.{State}
use Rattle.cip_routing.specs.Table.{pending_time_outs, hop_times_out, hop_time_outs}
use Rattle.cip_steps.proofs.TimeOuts.{applied_more}
use Rattle.cip_steps.proofs.device.Device.clear_due.Goals as goal

pub returns-clause-after : goal.returns-clause-after
returns-clause-after c =
    let m = c.args.self.now in
    let mid = c.clear_pendings.new.self in
    let t = c.args.now in
    c.clear_hops.ensures.after
    ∙ ap (λ (z : ModuleSettings). applied z (state_of_device mid) (hop_time_outs t mid.hops)) c.clear_pendings.ensures.config
    ∙ ap (λ (hs : List Hop). applied m.config (state_of_device mid) (map hop_times_out hs)) c.clear_pendings.ensures.hops
    ∙ ap (λ (s : State). applied m.config s (hop_time_outs t m.hops)) c.clear_pendings.ensures.after
    ∙ sym (applied_more m.config (state_of_device m) (pending_time_outs t m.pendings) (hop_time_outs t m.hops))
