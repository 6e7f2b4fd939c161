use Rattle.std.proofs.Common.{◌≡◌, ℕ, Option, length}
use Rattle.cip_base.specs.declared.triad.Triad.{Triad}
use Rattle.cip_steps.specs.declared.device.Device.{Device}
use Rattle.cip_steps.specs.Code.Device.{state_of_device}
use Rattle.cip_steps.specs.Code.Made.{counted_all, open_hops}
use Rattle.cip_steps.proofs.Made.{counted_from}
use Rattle.cip_routing.proofs.Walks.{opens_above}
use Rattle.cip_steps.proofs.device.Device.count_data.Given as goal

-- what is left to count leads to where the whole leads
pub record Counting (instance : ℕ) (old now : Device) (after : Option Triad) : Type 0 where
  pub config : now.config ≡ old.config
  pub state : counted_from instance after (state_of_device now) ≡ record (state_of_device old) { hops = counted_all instance (open_hops old.hops) old.hops }

abbrev pub invariant-loop-hop : goal.invariant-loop-hop
invariant-loop-hop l = Counting l.instance l.fn.self l.self l.after

abbrev pub decreases-loop-hop : goal.decreases-loop-hop
decreases-loop-hop l = length (opens_above l.after l.self.hops)
