-- Of the three answers, a chain, not open and broken, one at most holds.
use Rattle.std.proofs.Common.{◌≡◌, ℕ, List, [], ◌∷◌, Some, sym, subst, ◌∙◌}
use Rattle.cip_hops.specs.declared.hop.Hop.{Hop}
use Rattle.cip_hops.specs.declared.opening.HopDown.TheVariants.{Link as DownLink, End}
use Rattle.cip_hops.specs.Hops.{hop_by_op}
use Rattle.cip_laws.proofs.Triads.{own_triads}
use Rattle.cip_chassis.specs.Plan.{Plan}
use Rattle.cip_chassis.specs.Nodes.{node}
use Rattle.cip_world.specs.Chains.{Member, IsNextTo, GoesOnBy, last_of}
use Rattle.cip_world.specs.Journals.{Journal, part}
use Rattle.cip_world.specs.Runs.{IsRun, state_in}
use Rattle.cip_world.proofs.Given.{by_op}
use Rattle.cip_world.proofs.Leading.{across_node}
use Rattle.cip_world.proofs.OneChain.{next_once}
use Rattle.cip_world.proofs.Parts.{run_history, same_module}
use Rattle.cip_chain.specs.declared.chains.ChainView.{ChainView}
use Rattle.cip_chain.specs.Answers.{IsPath, IsView, IsBroken}
use Rattle.cip_chain.specs.Found.{IsNotOpen, LeadsNowhere}
use Rattle.cip_chain.proofs.Followed.{found_op}

down_parts : (p q : ℕ) (a b : List ℕ) → DownLink p a ≡ DownLink q b → (p ≡ q) × (a ≡ b)
down_parts p q a b e = (cc, cc)

no_end : (p c i o : ℕ) (a : List ℕ) → End c i o ≡ DownLink p a → ⊥
no_end p c i o a e = cc

some_number : (a b : ℕ) → Some a ≡ Some b → a ≡ b
some_number a b e = cc

some_hop : (a b : Hop) → Some a ≡ Some b → a ≡ b
some_hop a b e = cc

-- what stands next is not lacked
not_lacked : (t : Plan) (j : Journal) (x y : Member) (b : ℕ) → IsNextTo t j x y → LeadsNowhere t j x b → ⊥
not_lacked t j x y b n l =
    let parts = down_parts l.port n.port l.address n.address (sym l.down_is ∙ n.down_is) in
    let there = across_node t (record { at = x.at; port = n.port; address = n.address }) n.there n.across in
    let same = some_number b n.there.at (sym l.leads ∙ (λ i. node t x.at (parts.0 i) (parts.1 i)) ∙ there) in
    l.lacks y n.has (sym n.at_is ∙ sym same) (n.mirrors.id_is ∙ l.their_is)

no_path : (t : Plan) (j : Journal) (x : Member) (ys zs : List Member) (b : ℕ) → GoesOnBy t j x ys → IsPath t j x zs → LeadsNowhere t j (last_of x zs) b → ⊥
no_path t j x [] [] b e path l = no_end l.port e.config e.consume e.produce l.address (sym e.down_is ∙ l.down_is)
no_path t j x [] (z ∷ zs) b e path l = no_end path.0.port e.config e.consume e.produce path.0.address (sym e.down_is ∙ path.0.down_is)
no_path t j x (y ∷ ys) [] b on path l = not_lacked t j x y b on.0 l
no_path t j x (y ∷ ys) (z ∷ zs) b on path l =
    no_path t j z ys zs b (subst (λ (m : Member). GoesOnBy t j m ys) (next_once t j x y z on.0 path.0) on.1) path.1 l

pub view_open : (t : Plan) (j : Journal) (m op : ℕ) (view : ChainView) → IsRun t j → IsView t j m op view → IsNotOpen t j m op → ⊥
view_open t j m op view run v none =
    let x = v.first in
    let has = v.chain.has in
    none x has v.at_is
    (by_op (state_in has.config x.at j) x.hop op (own_triads has.config (part x.at j) (run_history t j x.at has.config run has.is_module)) v.chain.opened)

pub view_whole : (t : Plan) (j : Journal) (m op b : ℕ) (view : ChainView) → IsRun t j → IsView t j m op view → IsBroken t j m op b → ⊥
view_whole t j m op b view run v broken =
    let x = v.first in
    let y = broken.first in
    let at : x.at ≡ y.at = v.at_is ∙ sym broken.at_is in
    let config = same_module t y.at x.at v.chain.has.config broken.has.config at v.chain.has.is_module broken.has.is_module in
    let hop : x.hop ≡ y.hop =
    some_hop x.hop y.hop (sym v.chain.opened ∙ (λ i. hop_by_op (state_in (config i) (at i) j).hops op) ∙ found_op t j run y broken.has op broken.up_is) in
    let same : x ≡ y = λ i. record { at = at i; hop = hop i } in
    no_path t j y v.rest broken.rest b (subst (λ (z : Member). GoesOnBy t j z v.rest) same v.chain.goes_on) broken.path broken.nowhere

pub broken_open : (t : Plan) (j : Journal) (m op b : ℕ) → IsNotOpen t j m op → IsBroken t j m op b → ⊥
broken_open t j m op b none broken = none broken.first broken.has broken.at_is broken.up_is
