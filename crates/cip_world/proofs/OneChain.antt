-- At any moment an op has one chain at most, and a connection has one next to it.
use Rattle.std.proofs.Common.{◌≡◌, ℕ, List, [], ◌∷◌, Some, refl, sym, ap, subst, ◌∙◌}
use Rattle.std.specs.FinMap as map
use Rattle.cip_hops.specs.declared.opening.HopDown.TheVariants.{Link as DownLink, End}
use Rattle.cip_hops.specs.declared.hop.Hop.{Hop}
use Rattle.cip_hops.specs.declared.hop.Held.TheVariants.{Open}
use Rattle.cip_hops.specs.Hops.{hop_by_op}
use Rattle.cip_chassis.specs.Plan.{Plan}
use Rattle.cip_chassis.specs.Nodes.{Way, across as goes}
use Rattle.cip_world.specs.Chains.{Member, HasHop, IsNextTo, GoesToEnd, GoesOnBy, IsChain}
use Rattle.cip_world.specs.Journals.{Journal}
use Rattle.cip_world.specs.Runs.{state_in}
use Rattle.cip_world.proofs.Parts.{same_module}

open_hop : (g h : Hop) → Some (Open g) ≡ Some (Open h) → g ≡ h
open_hop g h e = cc

some_way : (a b : Way) → Some a ≡ Some b → a ≡ b
some_way a b e = cc

some_hop : (a b : Hop) → Some a ≡ Some b → a ≡ b
some_hop a b e = cc

down_parts : (p q : ℕ) (a b : List ℕ) → DownLink p a ≡ DownLink q b → (p ≡ q) × (a ≡ b)
down_parts p q a b e = (cc, cc)

-- two connections of one module under one triad are one
same_member : (t : Plan) (j : Journal) (x y : Member) → HasHop t j x → HasHop t j y → x.at ≡ y.at → x.hop.opening.triad ≡ y.hop.opening.triad → x ≡ y
same_member t j x y a b at triad =
    let config = same_module t y.at x.at a.config b.config at a.is_module b.is_module in
    let hop : x.hop ≡ y.hop = open_hop x.hop y.hop (sym a.stands ∙ (λ i. map.get (state_in (config i) (at i) j).hops.held (triad i)) ∙ b.stands) in
    λ i. record { at = at i; hop = hop i }

pub next_once : (t : Plan) (j : Journal) (x y z : Member) → IsNextTo t j x y → IsNextTo t j x z → y ≡ z
next_once t j x y z a b =
    let parts = down_parts a.port b.port a.address b.address (sym a.down_is ∙ b.down_is) in
    let there = some_way a.there b.there (sym a.across ∙ (λ i. goes t (record { at = x.at; port = parts.0 i; address = parts.1 i })) ∙ b.across) in
    same_member t j y z a.has b.has (sym a.at_is ∙ ap (λ (w : Way). w.at) there ∙ b.at_is) (a.mirrors.triad_is ∙ sym b.mirrors.triad_is)

no_end : (t : Plan) (j : Journal) (x y : Member) → GoesToEnd x.hop → IsNextTo t j x y → ⊥
no_end t j x y e n = let no : End e.config e.consume e.produce ≡ DownLink n.port n.address = sym e.down_is ∙ n.down_is in cc

pub goes_once : (t : Plan) (j : Journal) (x : Member) (ys zs : List Member) → GoesOnBy t j x ys → GoesOnBy t j x zs → ys ≡ zs
goes_once t j x [] [] a b = refl
goes_once t j x [] (z ∷ zs) a b = absurd (no_end t j x z a b.0)
goes_once t j x (y ∷ ys) [] a b = absurd (no_end t j x y b a.0)
goes_once t j x (y ∷ ys) (z ∷ zs) a b =
    let same = next_once t j x y z a.0 b.0 in
    let rest = goes_once t j z ys zs (subst (λ (m : Member). GoesOnBy t j m ys) same a.1) b.1 in
    λ i. same i ∷ rest i

pub chain_once : (t : Plan) (j : Journal) (op : ℕ) (x y : Member) (xs ys : List Member) → x.at ≡ y.at → IsChain t j op x xs
    → IsChain t j op y ys → (x ≡ y) × (xs ≡ ys)
chain_once t j op x y xs ys at a b =
    let config = same_module t y.at x.at a.has.config b.has.config at a.has.is_module b.has.is_module in
    let hop : x.hop ≡ y.hop = some_hop x.hop y.hop (sym a.opened ∙ (λ i. hop_by_op (state_in (config i) (at i) j).hops op) ∙ b.opened) in
    let same : x ≡ y = λ i. record { at = at i; hop = hop i } in
    (same, goes_once t j y xs ys (subst (λ (m : Member). GoesOnBy t j m xs) same a.goes_on) b.goes_on)
