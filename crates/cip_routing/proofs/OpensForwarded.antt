-- When a Forward_Open goes on: past the rows that refuse any open, the link by which it goes, and room for the connection.
use Rattle.std.proofs.Common.{◌≡◌, ℕ, cond, eqb, ◌||◌, is_some, List, refl, ap, ◌∙◌, Option, Some, None, Ok, Err}
use Rattle.std.specs.FinMap as map
use Rattle.cip_segment.specs.Reading.{HopAt, hop_of, segments_of}
use Rattle.cip_open.specs.Open.{Open}
use Rattle.cip_hops.specs.declared.opening.HopUp.{HopUp}
use Rattle.cip_hops.specs.Sides.{up_is_link}
use Rattle.cip_hops.specs.Hops.{Hops, refusal}
use Rattle.cip_target.specs.declared.link.EndLink.{EndLink}
use Rattle.cip_target.specs.Ends.{EndRow, end_row}
use Rattle.cip_target.specs.declared.ends.EndRefusal.TheVariants.{NotAnApplicationPath}
use Rattle.cip_config.specs.declared.config.ModuleSettings.{ModuleSettings}
use Rattle.cip_routing.specs.declared.refusals.KeyPart.{KeyPart}
use Rattle.cip_routing.specs.declared.refusals.LinkRefusal.{LinkRefusal}
use Rattle.cip_routing.specs.declared.refusals.OpenRefusal.TheVariants.{ConnectionTypeNotSupported, RpiOfZero, TriadInUse, NotSentOn, NoRoomToPassOn}
use Rattle.cip_routing.specs.declared.refusals.OpenRefusal.TheVariants.{NotAccepted, NoRoomToEndHere}
use Rattle.cip_routing.specs.Keys.{leading_mismatch}
use Rattle.cip_routing.specs.Links.{link_refusal, LeadsOn}
use Rattle.cip_routing.specs.OpenRows.{OpenRow, Refuses, Forwarded, Accepted, room_row, accepted_row, here_row, ids_if_forwarded, on_row, hop_row, key_row}
use Rattle.cip_routing.specs.OpenRows.{is_supported, open_row, is_consumed}
use Rattle.cip_routing.specs.State.{State}
use Rattle.cip_routing.proofs.Conditions.{past, past_not, none_is}
use Rattle.cip_routing.proofs.SendsForwarded.{link_ticks}

-- ---- what every open has to be

-- past the rows that refuse any open
pub past_all : (config : ModuleSettings) (s : State) (up : HopUp) (o : Open) (row : OpenRow) → open_row config s up o ≡ row
    → (Refuses ConnectionTypeNotSupported ≡ row → ⊥) → (Refuses RpiOfZero ≡ row → ⊥) → (Refuses TriadInUse ≡ row → ⊥)
    → (map.get s.hops.held o.fields.triad ≡ None) × (key_row config s up o (leading_mismatch config (segments_of o.path)) ≡ row)
unfolding open_row
past_all config s up o row e type rpi triad =
    let keyed = key_row config s up o (leading_mismatch config (segments_of o.path)) in
    let free = cond (is_some (map.get s.hops.held o.fields.triad)) (Refuses TriadInUse) keyed in
    let a = past_not (is_supported o) (Refuses ConnectionTypeNotSupported) (cond (eqb o.fields.ot_rpi 0 || eqb o.fields.to_rpi 0) (Refuses RpiOfZero) free) row
    e type in
    let b = past (eqb o.fields.ot_rpi 0 || eqb o.fields.to_rpi 0) (Refuses RpiOfZero) free row a.1 rpi in
    let c = past (is_some (map.get s.hops.held o.fields.triad)) (Refuses TriadInUse) keyed row b.1 triad in
    (none_is (map.get s.hops.held o.fields.triad) c.0, c.1)

-- ---- an open that goes on

room_forwards : (h : Hops) (o : Open) (link : EndLink) (port : ℕ) (address rest : List ℕ) → room_row h o link ≡ Forwarded port address rest → ⊥
room_forwards h o link port address rest e =
    let tested = past (is_some (refusal h o.fields.triad 1)) (Refuses NoRoomToEndHere) (Accepted link) (Forwarded port address rest) e (λ other. cc) in
    let other : Accepted link ≡ Forwarded port address rest = tested.1 in
    cc

ends_forwards : (h : Hops) (o : Open) (row : EndRow) (port : ℕ) (address rest : List ℕ) → accepted_row h o row ≡ Forwarded port address rest → ⊥
ends_forwards h o (Err refused) port address rest e = cc
ends_forwards h o (Ok link) port address rest e = room_forwards h o link port address rest e

here_forwards : (s : State) (up : HopUp) (o : Open) (port : ℕ) (address rest : List ℕ) → here_row s up o ≡ Forwarded port address rest → ⊥
here_forwards s up o port address rest e =
    let row = end_row s.assemblies (is_consumed s.hops) o in
    let tested = past_not (up_is_link up) (Refuses (NotAccepted NotAnApplicationPath)) (accepted_row s.hops o row) (Forwarded port address rest) e (λ other. cc)
    in
    ends_forwards s.hops o row port address rest tested.1

-- the link, and room for the connection
abbrev pub GoesOn : ModuleSettings → State → HopUp → Open → ℕ → List ℕ → List ℕ → Type 0
GoesOn config s up o port address rest = LeadsOn config s o.fields.timing o.path port address rest
    × (refusal s.hops o.fields.triad (ids_if_forwarded up) ≡ None)

on_forwards : (config : ModuleSettings) (s : State) (up : HopUp) (o : Open) (hop : HopAt) (x : Option LinkRefusal) (port : ℕ) (address rest : List ℕ)
    → hop_of o.path ≡ Some hop → link_refusal config s.pendings o.fields.timing hop.port hop.address ≡ x → on_row s up o hop x ≡ Forwarded port address rest
    → GoesOn config s up o port address rest
on_forwards config s up o hop (Some fault) port address rest first r e = absurd (let other : Refuses (NotSentOn fault) ≡ Forwarded port address rest = e in cc)
on_forwards config s up o hop None port address rest first r e =
    let tested = past (is_some (refusal s.hops o.fields.triad (ids_if_forwarded up))) (Refuses NoRoomToPassOn) (Forwarded hop.port hop.address hop.rest)
    (Forwarded port address rest) e (λ other. cc) in
    let same : Forwarded hop.port hop.address hop.rest ≡ Forwarded port address rest = tested.1 in
    let port_is : port ≡ hop.port = cc in
    let address_is : address ≡ hop.address = cc in (
      record {
        hop = hop;
        first = first;
        port_is = port_is;
        address_is = address_is;
        rest_is = cc;
        link = ap (λ q. link_refusal config s.pendings o.fields.timing q address) port_is
            ∙ ap (link_refusal config s.pendings o.fields.timing hop.port) address_is ∙ r;
        ticks = link_ticks config s.pendings o.fields.timing hop.port hop.address r;
      },
      none_is (refusal s.hops o.fields.triad (ids_if_forwarded up)) tested.0,
    )

hop_forwards : (config : ModuleSettings) (s : State) (up : HopUp) (o : Open) (x : Option HopAt) (port : ℕ) (address rest : List ℕ)
    → hop_of o.path ≡ x → hop_row config s up o x ≡ Forwarded port address rest → GoesOn config s up o port address rest
hop_forwards config s up o None port address rest first e = absurd (here_forwards s up o port address rest e)
hop_forwards config s up o (Some hop) port address rest first e =
    on_forwards config s up o hop (link_refusal config s.pendings o.fields.timing hop.port hop.address) port address rest first refl e

key_forwards : (config : ModuleSettings) (s : State) (up : HopUp) (o : Open) (x : Option KeyPart) (port : ℕ) (address rest : List ℕ)
    → key_row config s up o x ≡ Forwarded port address rest → GoesOn config s up o port address rest
key_forwards config s up o (Some part) port address rest e = absurd (cc)
key_forwards config s up o None port address rest e = hop_forwards config s up o (hop_of o.path) port address rest refl e

pub open_forwards : (config : ModuleSettings) (s : State) (up : HopUp) (o : Open) (port : ℕ) (address rest : List ℕ)
    → open_row config s up o ≡ Forwarded port address rest
    → (map.get s.hops.held o.fields.triad ≡ None) × GoesOn config s up o port address rest
open_forwards config s up o port address rest e =
    let h = past_all config s up o (Forwarded port address rest) e (λ other. cc) (λ other. cc) (λ other. cc) in
    (h.0, key_forwards config s up o (leading_mismatch config (segments_of o.path)) port address rest h.1)
