use Rattle.std.proofs.Common.{◌≡◌, length}
use Rattle.cip_pending.specs.Pendings.{due}
use Rattle.cip_hops.specs.Hops as hops
use Rattle.cip_routing.specs.Effects.{applied}
use Rattle.cip_steps.specs.Code.Device.{state_of_device}
use Rattle.cip_routing.specs.Table.{pending_time_outs}
use Rattle.cip_steps.proofs.device.Device.clear_pendings.Given as goal

abbrev pub invariant-loop : goal.invariant-loop
invariant-loop l =
    (l.self.config ≡ l.fn.self.config)
    × (hops.due l.now l.self.hops ≡ hops.due l.now l.fn.self.hops)
    × (applied l.fn.self.config (state_of_device l.fn.self) (pending_time_outs l.now l.fn.self.pendings)
    ≡ applied l.fn.self.config (state_of_device l.self) (pending_time_outs l.now l.self.pendings))

abbrev pub decreases-loop : goal.decreases-loop
decreases-loop l = length (due l.now l.self.pendings)
