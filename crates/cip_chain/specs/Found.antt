-- What `chain` finds: a connection of a module, what stands next to it, and why there is no chain.
use Rattle.std.specs.Prelude.{◌≡◌, ℕ, Some}
use Rattle.cip_base.specs.Words.{ConnectionId, LinkAddress, OpNumber, PortIdentifier}
use Rattle.cip_hops.specs.declared.opening.HopDown.TheVariants.{Link as DownLink}
use Rattle.cip_hops.specs.declared.opening.HopUp.TheVariants.{Local as UpLocal}
use Rattle.cip_hops.specs.declared.hop.Hop.{Hop}
use Rattle.cip_routing.specs.Views.{hop_row_of}
use Rattle.cip_chassis.specs.Plan.{Plan}
use Rattle.cip_chassis.specs.Nodes.{node}
use Rattle.cip_world.specs.Chains.{Member, HasHop, IsNextTo, GoesToEnd}
use Rattle.cip_world.specs.Journals.{Journal}
use Rattle.cip_chain.specs.declared.chains.ChainFault.{ChainFault}
use Rattle.cip_chain.specs.declared.chains.ChainFault.TheVariants as faults
use Rattle.cip_chain.specs.declared.seeking.Here.{Here}
use Rattle.cip_chain.specs.declared.seeking.Next.{Next}
use Rattle.cip_chain.specs.declared.seeking.Next.TheVariants as nexts

-- a connection of the module that is looked at
abbrev pub member : Here → Hop → Member
member here hop = record { at = here.at.0; hop = hop }

-- the module has it, and its row is the one that is looked at
pub record IsSeen (t : Plan) (j : Journal) (here : Here) (hop : Hop) : Type 0 where
  pub has : HasHop t j (member here hop)
  pub row_is : here.row ≡ hop_row_of hop

-- ---- why there is no chain

-- module m has no connection that the op opened
abbrev pub IsNotOpen : Plan → Journal → ℕ → OpNumber → Type 0
IsNotOpen t j m op = (x : Member) → HasHop t j x → x.at ≡ m → x.hop.opening.up ≡ UpLocal op → ⊥

-- the connection goes down to module b, which has none under the id that it names
pub record LeadsNowhere (t : Plan) (j : Journal) (x : Member) (b : ℕ) : Type 0 where
  pub port : PortIdentifier
  pub address : LinkAddress
  pub down_is : x.hop.opening.down ≡ DownLink port address
  pub leads : node t x.at port address ≡ Some b
  pub id : ConnectionId
  pub their_is : x.hop.their_id ≡ Some id
  pub lacks : (y : Member) → HasHop t j y → y.at ≡ b → y.hop.ids.up ≡ Some id → ⊥

-- ---- one step

-- a connection that the op opened at module m
pub record IsOpened (t : Plan) (j : Journal) (m : ℕ) (op : OpNumber) (here : Here) : Type 0 where
  pub hop : Hop
  pub seen : IsSeen t j here hop
  pub at_is : here.at.0 ≡ m
  pub up_is : hop.opening.up ≡ UpLocal op

abbrev pub IsOpenedFault : Plan → Journal → ℕ → OpNumber → ChainFault → Type 0
IsOpenedFault t j m op faults.NotOpen = IsNotOpen t j m op
IsOpenedFault t j m op (faults.Broken b) = ⊥
IsOpenedFault t j m op faults.NoMemory = Unit {0}

-- what stands next to the connection: another, or the end that it goes to
abbrev pub IsNext : Plan → Journal → Member → Next → Type 0
IsNext t j x (nexts.Hop here) =
    (hop : Hop) × IsSeen t j here hop × IsNextTo t j x (member here hop)
IsNext t j x (nexts.End consume produce) =
    (e : GoesToEnd x.hop) × (e.consume ≡ consume) × (e.produce ≡ produce)

abbrev pub IsNextFault : Plan → Journal → Member → ChainFault → Type 0
IsNextFault t j x faults.NotOpen = ⊥
IsNextFault t j x (faults.Broken b) = LeadsNowhere t j x b.0
IsNextFault t j x faults.NoMemory = Unit {0}
