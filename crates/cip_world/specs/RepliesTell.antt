-- What holds of the replies of a run.
use Rattle.std.specs.Prelude.{◌≡◌, ℕ, ◌≤◌, List, [], ◌∷◌, ◌++◌}
use Rattle.cip_base.specs.Words.{LinkAddress, Octets, OpNumber, PortIdentifier, RequestNumber}
use Rattle.cip_pending.specs.declared.entry.UpSide.TheVariants.{Link, Local}
use Rattle.cip_config.specs.declared.config.ModuleSettings.{ModuleSettings}
use Rattle.cip_event.specs.declared.event.Body.TheVariants as bodies
use Rattle.cip_event.specs.declared.event.Dropped.TheVariants as dropped
use Rattle.cip_event.specs.declared.event.Event.TheVariants as events
use Rattle.cip_event.specs.declared.event.Output.TheVariants as outputs
use Rattle.cip_laws.specs.Histories.{Turn}
use Rattle.cip_laws.specs.Weights.{is_reply, is_ended, is_asked_by, weight, came}
use Rattle.cip_laws.specs.Turns.{Has}
use Rattle.cip_chassis.specs.Plan.{Plan}
use Rattle.cip_event.specs.declared.frame.FrameName.{FrameName}
use Rattle.cip_world.specs.declared.journal.Input.TheVariants as inputs
use Rattle.cip_world.specs.Answers.{Answered}
use Rattle.cip_world.specs.Journals.{Journal, part}
use Rattle.cip_world.specs.Runs.{IsModule}
use Rattle.cip_world.specs.StepsIn.{StepIn, state_before}

-- Each request that came gets one reply at most, and none before it came; each op gets one Done at
-- most and one Ended at most, and neither in the turn of its Ended or after it. A reply that comes
-- answers the one request of its number, and one that is dropped as late changes no state.
pub record RepliesTell (t : Plan) (j : Journal) : Type 0 where
  pub once : (m : ℕ) (config : ModuleSettings) → IsModule t m config → (port : PortIdentifier)
      (n : RequestNumber) (from : LinkAddress) → weight (is_reply (Link port from n)) (part m j) ≤ 1
  pub after : (m : ℕ) (config : ModuleSettings) → IsModule t m config → (port : PortIdentifier)
      (n : RequestNumber) (from : LinkAddress)
      → 1 ≤ weight (is_reply (Link port from n)) (part m j)
      → 1 ≤ came (is_asked_by (Link port from n)) (part m j)
  pub done : (m : ℕ) (config : ModuleSettings) → IsModule t m config → (op : OpNumber)
      → weight (is_reply (Local op)) (part m j) ≤ 1
  pub ended : (m : ℕ) (config : ModuleSettings) → IsModule t m config → (op : OpNumber)
      → weight (is_ended op) (part m j) ≤ 1
  pub last : (m : ℕ) (config : ModuleSettings) → IsModule t m config → (later before : List Turn)
      (turn : Turn) → part m j ≡ later ++ (turn ∷ before) → (op : OpNumber)
      → Has turn.outputs (outputs.Ended op)
      → (weight (is_reply (Local op)) (later ++ (turn ∷ [])) ≡ 0) × (weight (is_ended op) later ≡ 0)
  pub answers : (k : ℕ) (s : StepIn t j k) (f : FrameName) (port : PortIdentifier)
      (n : RequestNumber) (from : LinkAddress) (bytes : Octets)
      → s.input ≡ inputs.Frame port from f
      → s.taken.event ≡ events.Frame port from (bodies.Reply n bytes)
      → Answered t s.before f s.at.0 port n from
  pub late : (k : ℕ) (s : StepIn t j k) (port : PortIdentifier) (n : RequestNumber)
      (from : LinkAddress) (bytes : Octets)
      → s.taken.event ≡ events.Frame port from (bodies.Reply n bytes)
      → Has s.outputs (outputs.Dropped dropped.Late) → s.taken.new ≡ state_before s
