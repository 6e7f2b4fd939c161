-- What `chain` answers.
use Rattle.std.specs.Prelude.{◌≡◌, ℕ, List, [], ◌∷◌, map, length}
use Rattle.cip_base.specs.Words.{OpNumber}
use Rattle.cip_base.specs.declared.numbers.ModuleId.{ModuleId}
use Rattle.cip_hops.specs.declared.opening.HopUp.TheVariants.{Local as UpLocal}
use Rattle.cip_hops.specs.declared.hop.Hop.{Hop}
use Rattle.cip_chassis.specs.Plan.{Plan}
use Rattle.cip_world.specs.Chains.{Member, HasHop, IsNextTo, GoesToEnd, IsChain, last_of}
use Rattle.cip_world.specs.Journals.{Journal}
use Rattle.cip_chain.specs.declared.chains.ChainView.{ChainView}
use Rattle.cip_chain.specs.declared.chains.ChainFault.{ChainFault}
use Rattle.cip_chain.specs.declared.chains.ChainFault.TheVariants as faults
use Rattle.cip_chain.specs.declared.seeking.Here.{Here}
use Rattle.cip_chain.specs.Found.{member, IsSeen, IsNotOpen, LeadsNowhere}

-- each stands next to the one before it, from x on
abbrev pub IsPath : Plan → Journal → Member → List Member → Type 0
IsPath t j x [] = Unit {0}
IsPath t j x (y ∷ ys) = IsNextTo t j x y × IsPath t j y ys

-- the modules through which these go
abbrev pub AreModules : Member → List Member → List ModuleId → Type 0
AreModules first rest modules =
    map (λ (x : Member). x.at) (first ∷ rest) ≡ map (λ (m : ModuleId). m.0) modules

-- the chain of the op at module m
pub record IsView (t : Plan) (j : Journal) (m : ℕ) (op : OpNumber) (view : ChainView) : Type 0 where
  pub first : Member
  pub rest : List Member
  pub at_is : first.at ≡ m
  pub chain : IsChain t j op first rest
  pub modules : AreModules first rest view.modules
  pub end : GoesToEnd (last_of first rest).hop
  pub consume_is : end.consume ≡ view.end.consume
  pub produce_is : end.produce ≡ view.end.produce

-- from the connection that the op opened at module m these lead to module b, which has none under
-- the id that the last of them names
pub record IsBroken (t : Plan) (j : Journal) (m : ℕ) (op : OpNumber) (b : ℕ) : Type 0 where
  pub first : Member
  pub rest : List Member
  pub at_is : first.at ≡ m
  pub has : HasHop t j first
  pub up_is : first.hop.opening.up ≡ UpLocal op
  pub path : IsPath t j first rest
  pub nowhere : LeadsNowhere t j (last_of first rest) b

abbrev pub IsChainFault : Plan → Journal → ℕ → OpNumber → ChainFault → Type 0
IsChainFault t j m op faults.NotOpen = IsNotOpen t j m op
IsChainFault t j m op (faults.Broken b) = IsBroken t j m op b.0
IsChainFault t j m op faults.NoMemory = Unit {0}

-- so far: from the connection that the op opened at module m to this one
pub record IsReached (t : Plan) (j : Journal) (m : ℕ) (op : OpNumber) (here : Here)
    (modules : List ModuleId) : Type 0 where
  pub first : Member
  pub rest : List Member
  pub at_is : first.at ≡ m
  pub has : HasHop t j first
  pub up_is : first.hop.opening.up ≡ UpLocal op
  pub path : IsPath t j first rest
  pub modules_are : AreModules first rest modules
  pub hop : Hop
  pub seen : IsSeen t j here hop
  pub last_is : last_of first rest ≡ member here hop

-- the length of the path that is left
abbrev pub left : Here → ℕ
left here = length here.row.path
