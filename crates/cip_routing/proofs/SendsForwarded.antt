-- When an Unconnected_Send goes on: the link by which it goes, and what is left of its route.
use Rattle.std.proofs.Common.{◌≡◌, ◌≤◌, ℕ, cond, eqb, ltb, is_some, List, length, refl, ap, ◌∙◌, not, Option, Some, None, Result, Ok, Err}
use Rattle.std.proofs.lemmas.Bool.{ltb-false}
use Rattle.cip_base.specs.declared.timing.Timing.{Timing}
use Rattle.cip_segment.specs.Reading.{HopAt, hop_of, segments_of}
use Rattle.cip_message.specs.Request.{Request}
use Rattle.cip_message.specs.RequestAt.{request_at}
use Rattle.cip_message.specs.declared.fault.RequestFault.{RequestFault}
use Rattle.cip_unconnected.specs.Unconnected.{Unconnected}
use Rattle.cip_pending.specs.Pendings.{Pendings, refusal}
use Rattle.cip_config.specs.declared.config.PortConfig.{PortConfig}
use Rattle.cip_config.specs.declared.config.ModuleSettings.{ModuleSettings}
use Rattle.cip_routing.specs.declared.refusals.KeyPart.{KeyPart}
use Rattle.cip_routing.specs.declared.refusals.LinkRefusal.{LinkRefusal}
use Rattle.cip_routing.specs.declared.refusals.LinkRefusal.TheVariants.{NoSuchPort, LinkAddressNotLegal, TicksSpent, NoPendingLeft}
use Rattle.cip_routing.specs.declared.refusals.UnconnectedRefusal.TheVariants.{EmbeddedRequestNotAllowed, NotSentOn}
use Rattle.cip_config.specs.Config.{port_of, is_adapter, is_legal}
use Rattle.cip_routing.specs.Keys.{leading_mismatch}
use Rattle.cip_routing.specs.Object.{begins_with_manager}
use Rattle.cip_routing.specs.Links.{link_refusal, port_refusal, wait_refusal, LeadsOn}
use Rattle.cip_routing.specs.UnconnectedRows.{Refuses, AnsweredHere, Forwarded, link_row, hop_row, key_row, route_row, embedded_row, unconnected_row}
use Rattle.cip_routing.specs.State.{State}
use Rattle.cip_routing.proofs.Conditions.{past}

-- ---- a link that a request can go by

pub wait_ticks : (p : Pendings) (timing : Timing) → wait_refusal p timing ≡ None → 2 ≤ timing.ticks
wait_ticks p timing e =
    let tested = past (ltb timing.ticks 2) (Some TicksSpent) (cond (is_some (refusal p)) (Some NoPendingLeft) None) None e (λ other. cc) in
    ltb-false timing.ticks 2 tested.0

port_ticks : (config : ModuleSettings) (p : Pendings) (timing : Timing) (address : List ℕ) (own : Option PortConfig)
    → port_refusal config p timing address own ≡ None → 2 ≤ timing.ticks
port_ticks config p timing address None e = absurd (cc)
port_ticks config p timing address (Some own) e =
    let routes = past (is_adapter config.kind) (Some NoSuchPort) (cond (not (is_legal own.legal address)) (Some LinkAddressNotLegal) (wait_refusal p timing))
    None e (λ other. cc) in
    let legal = past (not (is_legal own.legal address)) (Some LinkAddressNotLegal) (wait_refusal p timing) None routes.1 (λ other. cc) in
    wait_ticks p timing legal.1

pub link_ticks : (config : ModuleSettings) (p : Pendings) (timing : Timing) (port : ℕ) (address : List ℕ) → link_refusal config p timing port address ≡ None
    → 2 ≤ timing.ticks
unfolding link_refusal
link_ticks config p timing port address e = port_ticks config p timing address (port_of config port) e

-- ---- what goes on

link_sends : (config : ModuleSettings) (s : State) (timing : Timing) (path : List ℕ) (hop : HopAt) (x : Option LinkRefusal) (port : ℕ) (address rest : List ℕ)
    → hop_of path ≡ Some hop → link_refusal config s.pendings timing hop.port hop.address ≡ x → link_row hop x ≡ Forwarded port address rest
    → LeadsOn config s timing path port address rest
link_sends config s timing path hop (Some fault) port address rest first r e =
    absurd (let other : Refuses (NotSentOn fault) ≡ Forwarded port address rest = e in cc)
link_sends config s timing path hop None port address rest first r e =
    let same : Forwarded hop.port hop.address hop.rest ≡ Forwarded port address rest = e in
    let port_is : port ≡ hop.port = cc in
    let address_is : address ≡ hop.address = cc in
    record {
      hop = hop;
      first = first;
      port_is = port_is;
      address_is = address_is;
      rest_is = cc;
      link = ap (λ q. link_refusal config s.pendings timing q address) port_is ∙ ap (link_refusal config s.pendings timing hop.port) address_is ∙ r;
      ticks = link_ticks config s.pendings timing hop.port hop.address r;
    }

hop_sends : (config : ModuleSettings) (s : State) (u : Unconnected) (x : Option HopAt) (port : ℕ) (address rest : List ℕ)
    → hop_of u.route ≡ x → hop_row config s.pendings u x ≡ Forwarded port address rest → LeadsOn config s u.timing u.route port address rest
hop_sends config s u None port address rest first e = absurd (cc)
hop_sends config s u (Some hop) port address rest first e =
    link_sends config s u.timing u.route hop (link_refusal config s.pendings u.timing hop.port hop.address) port address rest first refl e

key_sends : (config : ModuleSettings) (s : State) (u : Unconnected) (x : Option KeyPart) (port : ℕ) (address rest : List ℕ)
    → key_row config s.pendings u x ≡ Forwarded port address rest → LeadsOn config s u.timing u.route port address rest
key_sends config s u (Some part) port address rest e = absurd (cc)
key_sends config s u None port address rest e = hop_sends config s u (hop_of u.route) port address rest refl e

embedded_sends : (config : ModuleSettings) (s : State) (u : Unconnected) (r : Result Request RequestFault) (port : ℕ) (address rest : List ℕ)
    → request_at u.request ≡ r → embedded_row config s.pendings u r ≡ Forwarded port address rest
    → (embedded : Request) × (request_at u.request ≡ Ok embedded) × LeadsOn config s u.timing u.route port address rest
embedded_sends config s u (Err fault) port address rest read e = absurd (let other : Refuses EmbeddedRequestNotAllowed ≡ Forwarded port address rest = e in cc)
embedded_sends config s u (Ok embedded) port address rest read e =
    let allowed = past (begins_with_manager (segments_of embedded.path)) (Refuses EmbeddedRequestNotAllowed) (route_row config s.pendings u embedded)
    (Forwarded port address rest) e (λ other. cc) in
    let routed = past (eqb (length u.route) 0) (AnsweredHere embedded) (key_row config s.pendings u (leading_mismatch config (segments_of u.route)))
    (Forwarded port address rest) allowed.1 (λ other. cc) in
    (embedded, read, key_sends config s u (leading_mismatch config (segments_of u.route)) port address rest routed.1)

pub sent_on : (config : ModuleSettings) (s : State) (u : Unconnected) (port : ℕ) (address rest : List ℕ)
    → unconnected_row config s.pendings u ≡ Forwarded port address rest
    → (embedded : Request) × (request_at u.request ≡ Ok embedded) × LeadsOn config s u.timing u.route port address rest
unfolding unconnected_row
sent_on config s u port address rest e = embedded_sends config s u (request_at u.request) port address rest refl e
