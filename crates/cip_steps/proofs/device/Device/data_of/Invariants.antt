use Rattle.std.proofs.Common.{◌≡◌, ◌++◌, length}
use Rattle.cip_steps.specs.Code.Made.{made_all, open_hops}
use Rattle.cip_routing.proofs.Walks.{opens_above}
use Rattle.cip_steps.proofs.device.Device.data_of.Given as goal

abbrev pub invariant-loop-hop : goal.invariant-loop-hop
invariant-loop-hop l = l.outputs.items ++ made_all l.instance l.held (opens_above l.after l.self.hops) ≡ made_all l.instance l.held (open_hops l.self.hops)

abbrev pub decreases-loop-hop : goal.decreases-loop-hop
decreases-loop-hop l = length (opens_above l.after l.self.hops)
