-- A walk goes on by the path's first hop, and ends where the path has none.
use Rattle.std.proofs.Common.{◌≡◌, ℕ, zero, suc, ◌<◌, List, length, Option, Some, None, refl, ap, ◌∙◌, arith}
use Rattle.std.specs.Prelude.{option_and_then}
use Rattle.cip_segment.specs.Reading.{HopAt, hop_of}
use Rattle.cip_segment.proofs.PathsShorten.{hop_shortens}
use Rattle.cip_chassis.specs.Plan.{Plan}
use Rattle.cip_chassis.specs.Nodes.{node}
use Rattle.cip_chassis.specs.Walk.{walk_by, walk_within, walk}

-- any two numbers above the length of the path do alike
enough : (t : Plan) (n k m : ℕ) (path : List ℕ) → length path < n → length path < k → walk_within n t m path ≡ walk_within k t m path
unfolding walk_within
enough t zero k m path a b = absurd (omega arith)
enough t (suc n) zero m path a b = absurd (omega arith)
enough t (suc n) (suc k) m path a b = by_hop (λ hop shorter j. enough t n k j hop.rest (omega arith) (omega arith)) (hop_of path) refl
  where
    by_node : (hop : HopAt) → ((j : ℕ) → walk_within n t j hop.rest ≡ walk_within k t j hop.rest) → (o : Option ℕ)
        → option_and_then (λ (j : ℕ). walk_within n t j hop.rest) o ≡ option_and_then (λ (j : ℕ). walk_within k t j hop.rest) o
    by_node hop rest None = refl
    by_node hop rest (Some j) = rest j

    by_hop : ((hop : HopAt) → length hop.rest < length path → (j : ℕ) → walk_within n t j hop.rest ≡ walk_within k t j hop.rest)
        → (o : Option HopAt) → hop_of path ≡ o → walk_by (walk_within n t) t m path o ≡ walk_by (walk_within k t) t m path o
    by_hop rest None e = refl
    by_hop rest (Some hop) e = by_node hop (rest hop (hop_shortens path hop e)) (node t m hop.port hop.address)

pub walk_ends : (t : Plan) (m : ℕ) (path : List ℕ) → hop_of path ≡ None → walk t m path ≡ Some (record { at = m; path = path })
unfolding walk walk_within
walk_ends t m path e = ap (walk_by (walk_within (length path) t) t m path) e

goes_by : (t : Plan) (path : List ℕ) (hop : HopAt) → length hop.rest < length path → (o : Option ℕ)
    → option_and_then (λ (j : ℕ). walk_within (length path) t j hop.rest) o ≡ option_and_then (λ (j : ℕ). walk t j hop.rest) o
unfolding walk
goes_by t path hop shorter None = refl
goes_by t path hop shorter (Some j) = enough t (length path) (suc (length hop.rest)) j hop.rest (omega arith) (omega arith)

pub walk_goes : (t : Plan) (m : ℕ) (path : List ℕ) (hop : HopAt) → hop_of path ≡ Some hop
    → walk t m path ≡ option_and_then (λ (j : ℕ). walk t j hop.rest) (node t m hop.port hop.address)
unfolding walk walk_within
walk_goes t m path hop e =
    ap (walk_by (walk_within (length path) t) t m path) e
    ∙ goes_by t path hop (hop_shortens path hop e) (node t m hop.port hop.address)
