-- A request that came gets one reply at most, none before it came and none while something waits for it.
use Rattle.std.proofs.Common.{◌≡◌, ℕ, ◌+◌, ◌≤◌, true, List, Some, arith}
use Rattle.std.specs.FinMap as map
use Rattle.cip_pending.specs.declared.entry.Entry as entries
use Rattle.cip_pending.specs.declared.entry.UpSide.TheVariants.{Link}
use Rattle.cip_config.specs.declared.config.ModuleSettings.{ModuleSettings}
use Rattle.cip_laws.specs.Weights.{same_up, is_reply, is_asked_by, weight, came}
use Rattle.cip_laws.proofs.Claims.{waits_for}
use Rattle.cip_laws.proofs.OneReply.{claims, waits_counted}
use Rattle.cip_world.specs.Journals.{Journal, part}
use Rattle.cip_world.specs.Runs.{IsModule, state_in, IsRun}
use Rattle.cip_world.proofs.Arrivals.{asked_once}
use Rattle.cip_world.proofs.Chassis.{Chassis}
use Rattle.cip_world.proofs.Parts.{run_history}

-- the request number n that came to module m by a port from an address
module _ (t : Chassis) (j : Journal) (m : ℕ) (config : ModuleSettings) (run : IsRun t.plan j) (is : IsModule t.plan m config) (port n : ℕ) (from : List ℕ) where
  claimed : weight (is_reply (Link port from n)) (part m j) + waits_for (Link port from n) (state_in config m j) ≤ came
      (is_asked_by (Link port from n)) (part m j)
  claimed = (claims config (Link port from n) (part m j) (run_history t.plan j m config run is)).1

  pub replied_once : weight (is_reply (Link port from n)) (part m j) ≤ 1
  replied_once = let all = claimed in let once = asked_once t j m port n from run in omega (arith, all, once)

  -- none before it came
  pub replied_after : 1 ≤ weight (is_reply (Link port from n)) (part m j) → 1 ≤ came (is_asked_by (Link port from n)) (part m j)
  replied_after h = let all = claimed in omega (arith, all, h)

  -- none while something waits for it
  pub waits_unreplied : (k : ℕ) (p : entries.Entry) → map.get (state_in config m j).pendings.entries k ≡ Some p
      → same_up p.up (Link port from n) ≡ true → weight (is_reply (Link port from n)) (part m j) ≡ 0
  waits_unreplied k p at same =
      let all = claimed in let once = asked_once t j m port n from run in let one = waits_counted (Link port from n) (state_in config m j) k p at same in
      omega (arith, all, once, one)
