-- Chains: connections that mirror one another, from an op to an end, and a datum that goes along
-- one.
use Rattle.std.specs.Prelude.{◌≡◌, ℕ, ◌≤◌, true, List, [], ◌∷◌, Some, length}
use Rattle.std.specs.FinMap as map
use Rattle.cip_base.specs.Words.{InstanceNumber, LinkAddress, Octets, OpNumber, PortIdentifier}
use Rattle.cip_base.specs.declared.numbers.ModuleId.{ModuleId}
use Rattle.cip_hops.specs.declared.hop.Held.{Held}
use Rattle.cip_hops.specs.declared.hop.Held.TheVariants.{Open}
use Rattle.cip_hops.specs.declared.hop.Hop.{Hop}
use Rattle.cip_hops.specs.declared.opening.HopDown.TheVariants.{Link as DownLink, End}
use Rattle.cip_hops.specs.Hops.{hop_by_op}
use Rattle.cip_config.specs.declared.config.ModuleSettings.{ModuleSettings}
use Rattle.cip_event.specs.declared.event.Output.{Output}
use Rattle.cip_event.specs.declared.event.Output.TheVariants as outputs
use Rattle.cip_laws.specs.Outputs.{is_data}
use Rattle.cip_chassis.specs.Plan.{Plan}
use Rattle.cip_chassis.specs.Nodes.{Way, across as goes}
use Rattle.cip_world.specs.declared.journal.Entry.TheVariants.{Step}
use Rattle.cip_event.specs.declared.frame.FrameName.{FrameName}
use Rattle.cip_world.specs.declared.journal.Input.TheVariants.{Frame}
use Rattle.cip_world.specs.Entering.{HasOutput}
use Rattle.cip_world.specs.Journals.{Journal, Flight, entry_at, frame_at}
use Rattle.cip_world.specs.Mirrors.{IsOlder, Mirrors}
use Rattle.cip_world.specs.Runs.{IsModule, state_in}

-- ---- chains

-- a connection of a module
pub record Member : Type 0 where
  pub at : ℕ
  pub hop : Hop

-- the module has it, at a moment
pub record HasHop (t : Plan) (j : Journal) (x : Member) : Type 0 where
  pub config : ModuleSettings
  pub is_module : IsModule t x.at config
  pub stands : map.get (state_in config x.at j).hops.held x.hop.opening.triad ≡ Some (Open x.hop)

-- y stands next behind x: where x goes down to, and it mirrors x
pub record IsNextTo (t : Plan) (j : Journal) (x y : Member) : Type 0 where
  pub port : PortIdentifier
  pub address : LinkAddress
  pub down_is : x.hop.opening.down ≡ DownLink port address
  pub there : Way
  pub across : goes t (record { at = x.at; port = port; address = address }) ≡ Some there
  pub at_is : there.at ≡ y.at
  pub has : HasHop t j y
  pub mirrors : Mirrors there x.hop y.hop

-- it goes down to an end here
pub record GoesToEnd (hop : Hop) : Type 0 where
  pub config : InstanceNumber
  pub consume : InstanceNumber
  pub produce : InstanceNumber
  pub down_is : hop.opening.down ≡ End config consume produce

-- each next one of the list, from x on, and the last one goes down to an end
abbrev pub GoesOnBy : Plan → Journal → Member → List Member → Type 0
GoesOnBy t j x [] = GoesToEnd x.hop
GoesOnBy t j x (y ∷ ys) = IsNextTo t j x y × GoesOnBy t j y ys

-- the chain of an op, at a moment: first the connection that the op opened, and then these
pub record IsChain (t : Plan) (j : Journal) (op : OpNumber) (first : Member) (rest : List Member)
    : Type 0 where
  pub has : HasHop t j first
  pub opened : hop_by_op (state_in has.config first.at j).hops op ≡ Some first.hop
  pub goes_on : GoesOnBy t j first rest

-- ---- a datum along a chain

-- the last of some that follow x
abbrev pub last_of : {X : Type 0} → X → List X → X
last_of x [] = x
last_of x (y ∷ ys) = last_of y ys

-- in entry k a datum was delivered that entry i sent
pub record IsDelivery (j : Journal) (i k : ℕ) : Type 0 where
  pub name : FrameName
  pub from_there : name.entry ≡ i
  pub flight : Flight
  pub sent : frame_at j name ≡ Some flight
  pub datum : is_data flight.body ≡ true
  pub at : ModuleId
  pub port : PortIdentifier
  pub from : LinkAddress
  pub outs : List Output
  pub is : entry_at j k ≡ Some (Step at (Frame port from name) outs)

-- these entries deliver the datum that entry i sent, then the one that the first of them sent, and
-- so on
abbrev pub AreDeliveries : Journal → ℕ → List ℕ → Type 0
AreDeliveries j i [] = Unit {0}
AreDeliveries j i (k ∷ ks) = IsDelivery j i k × AreDeliveries j k ks

-- something stands under the connection's triad
pub record IsHeld (t : Plan) (j : Journal) (x : Member) : Type 0 where
  pub config : ModuleSettings
  pub is_module : IsModule t x.at config
  pub held : Held
  pub stands : map.get (state_in config x.at j).hops.held x.hop.opening.triad ≡ Some held

-- at each moment from before entry i to before entry k: the connection is not removed
abbrev pub IsKept : Plan → Journal → ℕ → ℕ → Member → Type 0
IsKept t j i k x = (l : Journal) → IsOlder l j → i ≤ length l → length l ≤ k → IsHeld t l x

abbrev pub AreKept : Plan → Journal → ℕ → ℕ → List Member → Type 0
AreKept t j i k [] = Unit {0}
AreKept t j i k (x ∷ xs) = IsKept t j i k x × AreKept t j i k xs

-- in entry k the connection's end took the datum
pub record IsTakenBy (j : Journal) (k : ℕ) (x : Member) (bytes : Octets) : Type 0 where
  pub ends : GoesToEnd x.hop
  pub output : HasOutput j k x.at (outputs.Consumed x.hop.opening.triad ends.consume bytes)
