-- What stands next to a connection.
use Rattle.std.proofs.Common.{◌≡◌, ℕ, List, Option, Some, None, refl, sym, ap, ◌∙◌}
use Rattle.std.specs.FinMap as finite
use Rattle.std.proofs.lemmas.Bool.{and_parts}
use Rattle.cip_hops.specs.declared.hop.Held.TheVariants.{Open}
use Rattle.cip_hops.specs.declared.hop.Hop.{Hop}
use Rattle.cip_hops.specs.declared.opening.HopDown.TheVariants.{Link as DownLink, End}
use Rattle.cip_hops.specs.Hops.{Hops, hop_by_up, is_hop_by_up, is_id}
use Rattle.cip_hops.specs.Sides.{up_is}
use Rattle.cip_chassis.specs.Plan.{Plan, IsTopology}
use Rattle.cip_chassis.specs.Nodes.{Way, across as goes}
use Rattle.cip_world.specs.Chains.{Member, HasHop, IsNextTo, GoesToEnd}
use Rattle.cip_world.specs.Journals.{Journal}
use Rattle.cip_world.specs.Mirrors.{IsMirrored}
use Rattle.cip_world.specs.Runs.{IsRun, state_in}
use Rattle.cip_world.specs.Worlds.{looked_up}
use Rattle.cip_world.proofs.Carried.{found_up}
use Rattle.cip_world.proofs.Chassis.{chassis}
use Rattle.cip_world.proofs.Leading.{across_node}
use Rattle.cip_world.proofs.Mirrored.{mirrored}
use Rattle.cip_world.proofs.Moments.{itself}
use Rattle.cip_world.proofs.Parts.{same_module}
use Rattle.cip_chain.specs.Found.{LeadsNowhere}
use Rattle.cip_chain.proofs.Opened.{has_id, look_at, looked}

some_way : (a b : Way) → Some a ≡ Some b → a ≡ b
some_way a b e = cc

some_number : (a b : ℕ) → Some a ≡ Some b → a ≡ b
some_number a b e = cc

-- an end
pub ends : (hop : Hop) (config consume produce : ℕ) → hop.opening.down ≡ End config consume produce
    → (e : GoesToEnd hop) × (e.consume ≡ consume) × (e.produce ≡ produce)
ends hop config consume produce down = (record { config = config; consume = consume; produce = produce; down_is = down }, refl, refl)

module _ (t : Plan) (topology : IsTopology t) (j : Journal) (run : IsRun t j) (x : Member) (has : HasHop t j x) (port : ℕ) (address : List ℕ)
    (down : x.hop.opening.down ≡ DownLink port address) where
  abbrev out : Way
  out = record { at = x.at; port = port; address = address }

  im : IsMirrored t j out x.hop
  im = mirrored (chassis t topology) j j x.at has.config run has.is_module (itself j) x.hop.opening.triad x.hop port address has.stands down

  -- there is a module
  pub no_none : None ≡ goes t out → ⊥
  no_none none = let no : None ≡ Some im.there = none ∙ im.across in cc

  -- and an id
  pub no_id : x.hop.their_id ≡ None → ⊥
  no_id none = let no : None ≡ Some im.id = sym none ∙ im.their_is in cc

  module _ (there : Way) (found : Some there ≡ goes t out) (id : ℕ) (their : x.hop.their_id ≡ Some id) where
    same : there ≡ im.there
    same = some_way there im.there (found ∙ im.across)

    same_id : id ≡ im.id
    same_id = some_number id im.id (sym their ∙ im.their_is)

    abbrev look : Hops → Option Hop
    look hops = hop_by_up hops id there.port there.address

    -- a connection there under the id mirrors this one
    stands_next : (y : Member) → HasHop t j y → y.at ≡ there.at → y.hop.ids.up ≡ Some id → IsNextTo t j x y
    stands_next y own at up =
        let where_ : y.at ≡ im.there.at = at ∙ ap (λ (w : Way). w.at) same in
        let config = same_module t im.there.at y.at own.config im.config where_ own.is_module im.is_module in
        let stands : finite.get (state_in im.config im.there.at j).hops.held y.hop.opening.triad ≡ Some (Open y.hop) =
        (λ i. finite.get (state_in (sym config i) (sym where_ i) j).hops.held y.hop.opening.triad) ∙ own.stands in
        record {
          port = port;
          address = address;
          down_is = down;
          there = im.there;
          across = im.across;
          at_is = sym where_;
          has = own;
          mirrors = im.only j (itself j) y.hop.opening.triad y.hop stands (up ∙ ap (λ (n : ℕ). Some n) same_id);
        }

    pub next_found : (hop : Hop) → Some hop ≡ looked_up t j there.at look → IsNextTo t j x (record { at = there.at; hop = hop })
    next_found hop e =
        let l = looked t j there.at (is_hop_by_up id there.port there.address) hop run e in
        let test = and_parts (is_id id hop.ids.up) (up_is there.port there.address hop.opening.up) l.passes in
        stands_next (record { at = there.at; hop = hop }) l.has refl (has_id id hop.ids.up test.0)

    pub next_none : None ≡ looked_up t j there.at look → LeadsNowhere t j x there.at
    unfolding im stands_next
    next_none none = record {
      port = port;
      address = address;
      down_is = down;
      leads = across_node t out there (sym found);
      id = id;
      their_is = their;
      lacks = λ y own at up.
          let m = (stands_next y own at up).mirrors in
          let by_up = found_up t j y.at own.config run own.is_module y.hop own.stands id im.there.port m.own im.there.address up m.up_is in
          let no : None ≡ Some y.hop =
          none ∙ (λ i. looked_up t j (sym at i) (λ (hs : Hops). hop_by_up hs id (same i).port (same i).address))
          ∙ look_at t j y.at own.config (λ (hs : Hops). hop_by_up hs id im.there.port im.there.address) own.is_module ∙ by_up in
          cc;
    }
