use Rattle.std.proofs.Common.{ap, ◌∙◌}
use Rattle.cip_pending.specs.Pendings.{Pendings}
use Rattle.cip_hops.specs.Hops.{Hops}
use Rattle.cip_target.specs.Ends.{Ends}
use Rattle.cip_routing.proofs.Kept.{fresh_fit}
use Rattle.cip_steps.proofs.device.Device.resets.Goals as goal

pub invariant_of-self : goal.invariant_of-self
invariant_of-self c =
    let m = c.args.self.now in
    record {
      fit = fresh_fit m.config c.reset.new.self c.reset-2.new.self c.reset-3.new.self m.ops.ops.items
          (ap (λ (p : Pendings). p.entries) c.reset.ensures) (ap (λ (h : Hops). h.held) c.reset-2.ensures)
          (ap (λ (t : Ends). t.owners) c.reset-3.ensures) (ap (λ (t : Ends). t.objects.identity) c.reset-3.ensures ∙ m.fit.identity)
          (ap (λ (p : Pendings). p.room) c.reset.ensures ∙ m.fit.pending_room) (ap (λ (h : Hops). h.room) c.reset-2.ensures ∙ m.fit.hop_room);
    }
