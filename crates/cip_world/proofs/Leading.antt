-- Where the path of a connection leads: by its first hop to the node below, and at its end nowhere.
use Rattle.std.proofs.Common.{◌≡◌, ℕ, true, List, Option, Some, None, refl, sym, ap, ◌∙◌, is_some}
use Rattle.std.specs.FinMap as map
use Rattle.std.specs.Prelude.{option_map, option_and_then, slice_get}
use Rattle.cip_base.specs.declared.triad.Triad.{Triad}
use Rattle.cip_segment.specs.Reading.{HopAt, hop_of}
use Rattle.cip_open.specs.Open.{Open as OpenRequest}
use Rattle.cip_hops.specs.declared.opening.HopDown.TheVariants.{Link as DownLink, End}
use Rattle.cip_hops.specs.declared.opening.Opening.{Opening}
use Rattle.cip_hops.specs.declared.hop.Held.{Held}
use Rattle.cip_hops.specs.Sides.{up_is_link}
use Rattle.cip_hops.specs.Hops.{opening_of, ids_of}
use Rattle.cip_target.specs.declared.link.EndLink.{EndLink}
use Rattle.cip_target.specs.Ends.{HasPoints}
use Rattle.cip_target.proofs.EndPoints.{end_points}
use Rattle.cip_config.specs.declared.config.ModuleSettings.{ModuleSettings}
use Rattle.cip_config.specs.declared.config.PortConfig.{PortConfig}
use Rattle.cip_event.specs.declared.event.Event.{Event}
use Rattle.cip_config.specs.Config.{port_of}
use Rattle.cip_laws.specs.Histories.{Turn, state_after, IsHistory}
use Rattle.cip_routing.specs.OpenRows.{is_consumed}
use Rattle.cip_routing.specs.State.{State}
use Rattle.cip_chassis.specs.Plan.{Plan}
use Rattle.cip_chassis.specs.Nodes.{Node, Way, own_port, node_on, node_from, comes_in, leaves_by, node, across as goes}
use Rattle.cip_chassis.specs.Walk.{walk}
use Rattle.cip_chassis.proofs.Walks.{walk_goes}
use Rattle.cip_world.proofs.BornAs.{BornAs, GoesOn, EndsHere, Birth, held_as}
use Rattle.cip_world.proofs.Successes.{past_elim}

-- ---- by a link

-- the first hop of a path, which leads by this port to this address
pub record LeadsBy (path : List ℕ) (port : ℕ) (address : List ℕ) : Type 0 where
  pub first : HopAt
  pub first_is : hop_of path ≡ Some first
  pub port_is : first.port ≡ port
  pub address_is : first.address ≡ address

down_parts : (p q : ℕ) (a b : List ℕ) → DownLink p a ≡ DownLink q b → (p ≡ q) × (a ≡ b)
down_parts p q a b e = (cc, cc)

by_link : (config : ModuleSettings) (s : State) (event : Event) (o : Opening) (port : ℕ) (address : List ℕ) → o.down ≡ DownLink port address
    → BornAs config s event o
    → LeadsBy o.path port address
by_link config s event o port address down (GoesOn sending tells) =
    let parts = down_parts sending.port port sending.address address (sym (ap (λ (x : Opening). x.down) tells.opening_is) ∙ down) in
    record {
      first = tells.leads.hop;
      first_is = ap (λ (x : Opening). hop_of x.path) tells.opening_is ∙ tells.leads.first;
      port_is = sym tells.leads.port_is ∙ parts.0;
      address_is = sym tells.leads.address_is ∙ parts.1;
    }
by_link config s event o port address down (EndsHere request link tells) =
    let no : End link.config link.consume link.produce ≡ DownLink port address = sym (ap (λ (x : Opening). x.down) tells.opening_is) ∙ down in absurd (cc)

pub leads_by : (config : ModuleSettings) (turns : List Turn) → IsHistory config turns → (q : Triad) (x : Held) (port : ℕ) (address : List ℕ)
    → map.get (state_after config turns).hops.held q ≡ Some x → (opening_of x).down ≡ DownLink port address → LeadsBy (opening_of x).path port address
leads_by config turns h q x port address at down =
    past_elim (Birth config (opening_of x) (ids_of x)) (LeadsBy (opening_of x).path port address) turns (held_as config turns h q x at)
    (λ before turn b. by_link config (state_after config before) turn.event (opening_of x) port address down b.as_)

node_at : (o : Option Node) (from : List ℕ) (there : Way) → comes_in from o ≡ Some there → option_map (λ (n : Node). n.at) o ≡ Some there.at
node_at None from there e = absurd (cc)
node_at (Some n) from there e =
    let same : record { at = n.at; port = n.port.number; address = from } ≡ there = cc in ap (λ (w : Way). Some w.at) same

-- the node of a way is the module where frames come by it
pub across_node : (t : Plan) (way there : Way) → goes t way ≡ Some there → node t way.at way.port way.address ≡ Some there.at
across_node t way there e =
    elim (own_port t way.at way.port) as (λ (o : Option PortConfig). leaves_by t.modules way.address o ≡ Some there
    → option_map (λ (n : Node). n.at) (node_on t way.address o) ≡ Some there.at) [
      | None ↦ λ s. absurd (cc)
      | Some p ↦ λ s. node_at (node_from 0 t.modules p.link way.address) p.address there s
    ] e

-- a way out is by a port of the module
pub port_there : (t : Plan) (way there : Way) (config : ModuleSettings) → slice_get t.modules way.at ≡ Some config → goes t way ≡ Some there
    → is_some (port_of config way.port) ≡ true
port_there t way there config at e =
    let here : leaves_by t.modules way.address (port_of config way.port) ≡ Some there =
    sym (ap (λ (o : Option ModuleSettings). leaves_by t.modules way.address (option_and_then (λ (c : ModuleSettings). port_of c way.port) o)) at) ∙ e in
    elim (port_of config way.port) as (λ (o : Option PortConfig). leaves_by t.modules way.address o ≡ Some there → is_some o ≡ true) [
      | None ↦ λ s. absurd (cc)
      | Some p ↦ λ s. refl
    ] here

-- the walk of a path goes on where its first hop leads
pub walk_on : (t : Plan) (m port : ℕ) (address : List ℕ) (there : Way) (path rest : List ℕ) → (h : LeadsBy path port address) → rest ≡ h.first.rest
    → goes t (record { at = m; port = port; address = address }) ≡ Some there → walk t m path ≡ walk t there.at rest
walk_on t m port address there path rest h rest_is across =
    let hop = across_node t (record { at = m; port = port; address = address }) there across in
    walk_goes t m path h.first h.first_is
    ∙ (λ i. option_and_then (λ (j : ℕ). walk t j h.first.rest) (node t m (h.port_is i) (h.address_is i)))
    ∙ ap (option_and_then (λ (j : ℕ). walk t j h.first.rest)) hop
    ∙ ap (walk t there.at) (sym rest_is)

-- ---- at an end

-- a connection that ends here came by a link, and its path names no hop, but the three instances
pub record EndsAt (o : Opening) (config consume produce : ℕ) : Type 0 where
  pub request : OpenRequest
  pub link : EndLink
  pub path_is : request.path ≡ o.path
  pub ends : hop_of o.path ≡ None
  pub points : HasPoints request link
  pub config_is : link.config ≡ config
  pub consume_is : link.consume ≡ consume
  pub produce_is : link.produce ≡ produce
  pub came : up_is_link o.up ≡ true

end_parts : (a b c d e f : ℕ) → End a b c ≡ End d e f → (a ≡ d) × (b ≡ e) × (c ≡ f)
end_parts a b c d e f h = (cc, cc, cc)

by_end : (config : ModuleSettings) (s : State) (event : Event) (o : Opening) (a b c : ℕ) → o.down ≡ End a b c → BornAs config s event o → EndsAt o a b c
by_end config s event o a b c down (GoesOn sending tells) =
    let no : DownLink sending.port sending.address ≡ End a b c = sym (ap (λ (x : Opening). x.down) tells.opening_is) ∙ down in absurd (cc)
by_end config s event o a b c down (EndsHere request link tells) =
    let parts = end_parts link.config link.consume link.produce a b c (sym (ap (λ (x : Opening). x.down) tells.opening_is) ∙ down) in
    record {
      request = request;
      link = link;
      path_is = sym (ap (λ (x : Opening). x.path) tells.opening_is);
      ends = ap (λ (x : Opening). hop_of x.path) tells.opening_is ∙ tells.ends;
      points = end_points s.assemblies (is_consumed s.hops) request link tells.fits;
      config_is = parts.0;
      consume_is = parts.1;
      produce_is = parts.2;
      came = ap (λ (x : Opening). up_is_link x.up) tells.opening_is ∙ tells.came;
    }

pub ends_at : (config : ModuleSettings) (turns : List Turn) → IsHistory config turns → (q : Triad) (x : Held) (a b c : ℕ)
    → map.get (state_after config turns).hops.held q ≡ Some x → (opening_of x).down ≡ End a b c → EndsAt (opening_of x) a b c
ends_at config turns h q x a b c at down =
    past_elim (Birth config (opening_of x) (ids_of x)) (EndsAt (opening_of x) a b c) turns (held_as config turns h q x at)
    (λ before turn birth. by_end config (state_after config before) turn.event (opening_of x) a b c down birth.as_)
