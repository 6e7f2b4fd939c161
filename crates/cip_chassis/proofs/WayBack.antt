-- In a topology the way back leads where the frame came from.
use Rattle.std.proofs.Common.{◌≡◌, ℕ, zero, suc, ◌+◌, true, List, [], ◌∷◌, Option, Some, None, refl, sym, ap, ◌∙◌, arith, eqb}
use Rattle.std.specs.Prelude.{slice_get, find, option_and_then}
use Rattle.std.specs.Str.{bytes_eq}
use Rattle.std.proofs.lemmas.Bool.{and_parts, and_from, eqb-true, eq-eqb}
use Rattle.std.proofs.lemmas.Slice.Eq.{bytes_eq-Decides}
use Rattle.cip_config.specs.declared.config.ModuleSettings.{ModuleSettings}
use Rattle.cip_config.specs.declared.config.PortConfig.{PortConfig}
use Rattle.cip_config.specs.Config.{has_number, port_of}
use Rattle.cip_chassis.specs.Plan.{Plan, HasPort, IsTopology}
use Rattle.cip_chassis.specs.Nodes.{is_at, Node, or_later, node_from, Way, own_port, comes_in, leaves_by, across}
use Rattle.cip_chassis.proofs.Ports.{some_same, Found, found, finds, numbered, settings_differ}

pub is_there : (link : ℕ) (address : List ℕ) (p : PortConfig) → is_at link address p ≡ true → (p.link ≡ link) × (p.address ≡ address)
is_there link address p t = let both = and_parts (eqb p.link link) (bytes_eq p.address address) t in
    (eqb-true p.link link both.0, (bytes_eq-Decides p.address address).0 both.1)

pub there_is : (link : ℕ) (address : List ℕ) (p : PortConfig) → p.link ≡ link → p.address ≡ address → is_at link address p ≡ true
there_is link address p e f = and_from (eqb p.link link) (bytes_eq p.address address) (eq-eqb p.link link e) ((bytes_eq-Decides p.address address).1 f)

-- ---- the module of an address

-- what is found from place i on is a port of the modules there, on that link with that address
pub record IsNode (i : ℕ) (cs : List ModuleSettings) (link : ℕ) (address : List ℕ) (node : Node) : Type 0 where
  pub offset : ℕ
  pub place_is : node.at ≡ i + offset
  pub port : HasPort cs offset node.port
  pub there : is_at link address node.port ≡ true

node_later : (i : ℕ) (c : ModuleSettings) (cs : List ModuleSettings) (link : ℕ) (address : List ℕ) (node : Node)
    → IsNode (i + 1) cs link address node → IsNode i (c ∷ cs) link address node
node_later i c cs link address node h = record {
  offset = suc h.offset;
  place_is = let is = h.place_is in omega (arith, is);
  port = record { config = h.port.config; place = h.port.place; at = h.port.at; has = h.port.has };
  there = h.there;
}

node_now : (i : ℕ) (c : ModuleSettings) (cs : List ModuleSettings) (link : ℕ) (address : List ℕ) (p : PortConfig) (node : Node)
    → find (is_at link address) c.ports ≡ Some p → record { at = i; port = p } ≡ node
    → IsNode i (c ∷ cs) link address node
node_now i c cs link address p node e is =
    let f = found (is_at link address) c.ports p e in
    let port : p ≡ node.port = ap (λ (x : Node). x.port) is in
    record {
      offset = 0;
      place_is = let at = ap (λ (x : Node). x.at) is in omega (arith, at);
      port = record { config = c; place = f.place; at = refl; has = f.at ∙ ap (λ (x : PortConfig). Some x) port };
      there = ap (is_at link address) (sym port) ∙ f.passes;
    }

pub node_is : (i : ℕ) (cs : List ModuleSettings) (link : ℕ) (address : List ℕ) (node : Node) → node_from i cs link address ≡ Some node
    → IsNode i cs link address node
node_is i [] link address node e = absurd (cc)
node_is i (c ∷ cs) link address node e =
    elim (find (is_at link address) c.ports) as (λ (x : Option PortConfig). find (is_at link address) c.ports ≡ x
    → or_later i x (node_from (i + 1) cs link address) ≡ Some node → IsNode i (c ∷ cs) link address node) [
      | None ↦ λ t s. node_later i c cs link address node (node_is (i + 1) cs link address node s)
      | Some p ↦ λ t s. node_now i c cs link address p node t (some_same (record { at = i; port = p }) node s)
    ] refl e

in_later : (i : ℕ) (c : ModuleSettings) (cs : List ModuleSettings) (link : ℕ) (address : List ℕ) (p : PortConfig)
    → is_at link address p ≡ true → (k : ℕ) → HasPort (c ∷ cs) k p
    → find (is_at link address) c.ports ≡ None → ((k : ℕ) → HasPort cs k p → (node : Node) × (node_from (i + 1) cs link address ≡ Some node))
    → (node : Node) × (node_from (i + 1) cs link address ≡ Some node)
in_later i c cs link address p t zero g s rest =
    let same = some_same c g.config g.at in
    let y = finds (is_at link address) c.ports g.place p (ap (λ (x : ModuleSettings). slice_get x.ports g.place) same ∙ g.has) t in
    let no : None ≡ Some y.0 = sym s ∙ y.1 in absurd (cc)
in_later i c cs link address p t (suc k) g s rest = rest k (record { config = g.config; place = g.place; at = g.at; has = g.has })

pub node_found : (i : ℕ) (cs : List ModuleSettings) (link : ℕ) (address : List ℕ) (m : ℕ) (p : PortConfig) → HasPort cs m p
    → is_at link address p ≡ true → (node : Node) × (node_from i cs link address ≡ Some node)
node_found i [] link address m p h t = let e = h.at in absurd (cc)
node_found i (c ∷ cs) link address m p h t =
    elim (find (is_at link address) c.ports) as (λ (x : Option PortConfig). find (is_at link address) c.ports ≡ x
    → (node : Node) × (or_later i x (node_from (i + 1) cs link address) ≡ Some node)) [
      | Some q ↦ λ s. (record { at = i; port = q }, refl)
      | None ↦ λ s. in_later i c cs link address p t m h s (λ k g. node_found (i + 1) cs link address k p g t)
    ] refl

-- ---- the way back

module _ (t : Plan) (is_topology : IsTopology t) where
  -- a port of a module is the one of its number
  own_number : (m : ℕ) (c : ModuleSettings) (p : PortConfig) → slice_get t.modules m ≡ Some c → HasPort t.modules m p → port_of c p.number ≡ Some p
  own_number m c p at h =
      let same = some_same h.config c (sym h.at ∙ at) in
      let has : slice_get c.ports h.place ≡ Some p = ap (λ (x : ModuleSettings). slice_get x.ports h.place) (sym same) ∙ h.has in
      numbered c.ports (settings_differ c (is_topology.modules m c at)) h.place p has

  -- the node of the link and the address of a port is that port
  own_node : (m : ℕ) (p : PortConfig) → HasPort t.modules m p → node_from 0 t.modules p.link p.address ≡ Some (record { at = m; port = p })
  own_node m p h =
      let y = node_found 0 t.modules p.link p.address m p h (there_is p.link p.address p refl refl) in
      let node = node_is 0 t.modules p.link p.address y.0 y.1 in
      let there = is_there p.link p.address y.0.port node.there in
      let one = is_topology.addresses node.offset m y.0.port p node.port h there.0 there.1 in
      let place : y.0.at ≡ m = let is = node.place_is in let same = one.0 in omega (arith, is, same) in
      y.1 ∙ (λ i. Some (record { at = place i; port = one.1 i }))

  pub leads_back : (way there : Way) → across t way ≡ Some there → across t there ≡ Some way
  leads_back way there e = by_config (slice_get t.modules way.at) refl e
    where
      by_node : (c : ModuleSettings) (p : PortConfig) → slice_get t.modules way.at ≡ Some c → Found (has_number way.port) c.ports p
          → (o : Option Node) → node_from 0 t.modules p.link way.address ≡ o
          → comes_in p.address o ≡ Some there → across t there ≡ Some way
      by_node c p at port None found_is s = absurd (cc)
      by_node c p at port (Some node) found_is s =
          let same = some_same (record { at = node.at; port = node.port.number; address = p.address }) there s in
          let is = node_is 0 t.modules p.link way.address node found_is in
          let here : HasPort t.modules way.at p = record { config = c; place = port.place; at = at; has = port.at } in
          let place : node.at ≡ is.offset = let e = is.place_is in omega (arith, e) in
          let own = own_number is.offset is.port.config node.port is.port.at is.port in
          let on = is_there p.link way.address node.port is.there in
          let back = own_node way.at p here in
          ap (across t) (sym same)
          ∙ ap (λ (k : ℕ). leaves_by t.modules p.address (own_port t k node.port.number)) place
          ∙ ap (λ (o : Option ModuleSettings). leaves_by t.modules p.address
          (option_and_then (λ (c : ModuleSettings). port_of c node.port.number) o)) is.port.at
          ∙ ap (leaves_by t.modules p.address) own
          ∙ ap (λ (l : ℕ). comes_in node.port.address (node_from 0 t.modules l p.address)) on.0
          ∙ ap (comes_in node.port.address) back
          ∙ (λ i. Some (record { at = way.at; port = eqb-true p.number way.port port.passes i; address = on.1 i }))

      by_port : (c : ModuleSettings) → slice_get t.modules way.at ≡ Some c → (o : Option PortConfig) → port_of c way.port ≡ o
          → leaves_by t.modules way.address o ≡ Some there → across t there ≡ Some way
      by_port c at None port s = absurd (cc)
      by_port c at (Some p) port s = by_node c p at (found (has_number way.port) c.ports p port) (node_from 0 t.modules p.link way.address) refl s

      by_config : (o : Option ModuleSettings) → slice_get t.modules way.at ≡ o
          → leaves_by t.modules way.address (option_and_then (λ (c : ModuleSettings). port_of c way.port) o) ≡ Some there → across t there ≡ Some way
      by_config None at s = absurd (cc)
      by_config (Some c) at s = by_port c at (port_of c way.port) refl s
