use Rattle.std.proofs.Common.{ap, ◌∙◌}
use Rattle.cip_pending.specs.Pendings.{Pendings}
use Rattle.cip_hops.specs.Hops.{Hops}
use Rattle.cip_target.specs.Ends.{Ends}
use Rattle.cip_config.specs.declared.config.ModuleSettings.{ModuleSettings}
use Rattle.cip_routing.proofs.Kept.{fresh_fit}
use Rattle.cip_steps.proofs.device.Device.new.Goals as goal

pub invariant_of-result : goal.invariant_of-result
invariant_of-result c = record {
  fit = fresh_fit c.args.config c.in_ok-pendings.pendings c.in_ok-hops.hops c.in_ok-target.target c.new.result.ops.items
      (ap (λ (p : Pendings). p.entries) c.in_ok-pendings.ensures) (ap (λ (h : Hops). h.held) c.in_ok-hops.ensures)
      (ap (λ (t : Ends). t.owners) c.in_ok-target.ensures) (ap (λ (t : Ends). t.objects.identity) c.in_ok-target.ensures)
      (ap (λ (p : Pendings). p.room) c.in_ok-pendings.ensures ∙ ap (λ (z : ModuleSettings). z.pending_room) c.settings-settings.ensures.value)
      (ap (λ (h : Hops). h.room) c.in_ok-hops.ensures ∙ ap (λ (z : ModuleSettings). z.hop_room) c.settings-settings.ensures.value);
}
