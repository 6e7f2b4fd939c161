-- A frame that comes in comes to a module of the topology, and the routing table has a step for it.
use Rattle.std.proofs.Common.{◌≡◌, ℕ, zero, suc, ◌<◌, List, [], ◌∷◌, length, map, Result, Ok, Err, Option, Some, None, refl, sym, ap, ◌∙◌, arith}
use Rattle.std.specs.Prelude.{slice_get, IfErr}
use Rattle.std.proofs.lemmas.List.{length-map}
use Rattle.cip_config.specs.declared.config.PortConfig.{PortConfig}
use Rattle.cip_event.specs.declared.event.Body.{Body}
use Rattle.cip_event.specs.declared.event.Event.TheVariants as events
use Rattle.cip_chassis.specs.Plan.{Plan}
use Rattle.cip_chassis.specs.Nodes.{Way, Node, own_port, node_from, comes_in, leaves_by, across as goes}
use Rattle.cip_chassis.proofs.WayBack.{node_is}
use Rattle.cip_world.specs.declared.fault.WorldFault.{WorldFault}
use Rattle.cip_world.specs.declared.fault.WorldFault.TheVariants.{NoModule, NoFrame, Step, NoMemory}
use Rattle.cip_world.specs.declared.flight.Coming.{Coming}
use Rattle.cip_event.specs.declared.frame.FrameName.{FrameName}
use Rattle.cip_world.specs.Coming.{IsComing}
use Rattle.cip_world.specs.Journals.{Journal}
use Rattle.cip_world.specs.Runs.{IsArrival}
use Rattle.cip_world.specs.Worlds.{IsFeedFault, IsFrameFault}

pub got_within : {A : Type 0} (xs : List A) (i : ℕ) (x : A) → slice_get xs i ≡ Some x → i < length xs
got_within [] i x e = absurd (cc)
got_within (y ∷ ys) zero x e = omega arith
got_within (y ∷ ys) (suc i) x e = let l = got_within ys i x e in omega (arith, l)

pub some_same : {A : Type 0} (a b : A) → Some a ≡ Some b → a ≡ b
some_same a b e = cc

node_within : (t : Plan) (link : ℕ) (address from : List ℕ) (there : Way) (o : Option Node) → node_from 0 t.modules link address ≡ o
    → comes_in from o ≡ Some there → there.at < length t.modules
node_within t link address from there None e h = absurd (cc)
node_within t link address from there (Some n) e h =
    let is = node_is 0 t.modules link address n e in
    let same : n.at ≡ there.at = ap (λ (w : Way). w.at) (some_same (record { at = n.at; port = n.port.number; address = from }) there h) in
    let place = is.place_is in
    let l = got_within t.modules is.offset is.port.config is.port.at in
    omega (arith, same, place, l)

leaves_within : (t : Plan) (to : List ℕ) (there : Way) (o : Option PortConfig) → leaves_by t.modules to o ≡ Some there → there.at < length t.modules
leaves_within t to there None h = absurd (cc)
leaves_within t to there (Some p) h = node_within t p.link to p.address there (node_from 0 t.modules p.link to) refl h

pub goes_within : (t : Plan) (way there : Way) → goes t way ≡ Some there → there.at < length t.modules
goes_within t way there h = leaves_within t way.address there (own_port t way.at way.port) h

pub comes_within : (t : Plan) (j : Journal) (f : FrameName) (c : Coming) → IsComing t j f c → c.at.0 < length t.modules
comes_within t j f c h =
    let l = goes_within t h.waits.flight.way h.waits.there h.waits.leads in
    let same = ap (λ (w : Way). w.at) h.here in
    omega (arith, l, same)

pub comes_given : (t : Plan) (j : Journal) (f : FrameName) (c : Coming) (from again : List ℕ) (body : Body) → IsComing t j f c
    → from ≡ c.from.now → again ≡ from → body ≡ c.body.now
    → IsArrival t j f c.at.0 c.port again (events.Frame c.port from body)
comes_given t j f c from again body h is too b = record {
  waits = h.waits;
  here = h.here ∙ (λ i. record { at = c.at.0; port = c.port; address = (sym is ∙ sym too) i });
  event_is = λ i. events.Frame c.port (sym too i) ((b ∙ sym h.body_is) i);
}

pub frame_fault : {X : Type 0} (t : Plan) (j : Journal) (m : ℕ) (u : Plan) (k : Journal) (f : FrameName) (port : ℕ)
    (from : List ℕ) (body : Body) (r : Result X WorldFault) → m < length t.modules
    → IfErr r (IsFeedFault t j m (events.Frame port from body)) → IfErr r (IsFrameFault u k f)
frame_fault t j m u k f port from body (Ok x) l h = tt
frame_fault t j m u k f port from body (Err NoModule) l h = absurd (omega (arith, l, h))
frame_fault t j m u k f port from body (Err NoFrame) l h = absurd h
frame_fault t j m u k f port from body (Err (Step full)) l h = let none = h.none in cc
frame_fault t j m u k f port from body (Err NoMemory) l h = tt

pub within_boxes : {A B : Type 0} (f : A → B) (xs : List A) (m n : ℕ) → length (map f xs) ≡ n → m < n → m < length xs
within_boxes f xs m n e l = let same = length-map xs f in omega (arith, e, l, same)
