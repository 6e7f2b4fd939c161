-- Whether modules are those of a topology, and in their first states.
use Rattle.std.specs.Prelude.{◌≡◌, ◌≢◌, ℕ, ◌<◌, List, length, map, take, slice_get}
use Rattle.cip_config.specs.declared.config.ModuleSettings.{ModuleSettings}
use Rattle.cip_routing.specs.State.{State, initial_state}
use Rattle.cip_chassis.specs.Plan.{Plan}
use Rattle.cip_world.specs.declared.fresh.NewFault.{NewFault}
use Rattle.cip_world.specs.declared.fresh.NewFault.TheVariants.{Count, Config, NotFresh, NoMemory}

-- the modules have the configs of the topology and are in the first states of these
pub record AreFresh (t : Plan) (configs : List ModuleSettings) (states : List State)
    : Type 0 where
  pub configs_are : configs ≡ t.modules
  pub states_are : states ≡ map initial_state t.modules

-- the lists have the same elements up to place m, and others there
pub record DifferFirst {X : Type 0} (xs ys : List X) (m : ℕ) : Type 0 where
  pub before : take m xs ≡ take m ys
  pub within : m < length xs
  pub differ : slice_get xs m ≢ slice_get ys m

-- Each answer, where it is the first that holds: not as many modules; then the least that has
-- another config; then, where all configs are right, the least that is not in its first state.
abbrev pub IsNewFault : Plan → List ModuleSettings → List State → NewFault → Type 0
IsNewFault t configs states Count = length configs ≢ length t.modules
IsNewFault t configs states (Config m) =
    (length configs ≡ length t.modules) × DifferFirst configs t.modules m.0
IsNewFault t configs states (NotFresh m) =
    (configs ≡ t.modules) × DifferFirst states (map initial_state t.modules) m.0
IsNewFault t configs states NoMemory = Unit {0}
