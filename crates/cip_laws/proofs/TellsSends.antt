-- What an Unconnected_Send tells, read backwards.
use Rattle.std.proofs.Common.{◌≡◌, ℕ, eqb, List, [], length, refl, ap, ◌∙◌, inl, Option, Some, None, Result, Ok, Err}
use Rattle.std.proofs.lemmas.Bool.{eqb-true}
use Rattle.std.proofs.lemmas.List.{nil_from_length}
use Rattle.cip_segment.specs.Reading.{HopAt, hop_of, segments_of}
use Rattle.cip_message.specs.Request.{Request}
use Rattle.cip_message.specs.RequestAt.{request_at}
use Rattle.cip_message.specs.declared.fault.RequestFault.{RequestFault}
use Rattle.cip_unconnected.specs.Unconnected.{Unconnected}
use Rattle.cip_unconnected.specs.UnconnectedAt.{unconnected_at}
use Rattle.cip_unconnected.specs.declared.fault.UnconnectedFault.{UnconnectedFault}
use Rattle.cip_pending.specs.declared.entry.UpSide.{UpSide}
use Rattle.cip_pending.specs.Pendings.{Pendings, refusal}
use Rattle.cip_config.specs.declared.config.ModuleSettings.{ModuleSettings}
use Rattle.cip_event.specs.declared.event.Event.{Event}
use Rattle.cip_routing.specs.declared.refusals.KeyPart.{KeyPart}
use Rattle.cip_routing.specs.declared.refusals.LinkRefusal.{LinkRefusal}
use Rattle.cip_routing.specs.declared.refusals.UnconnectedRefusal.TheVariants.{EmbeddedRequestNotAllowed}
use Rattle.cip_routing.specs.Keys.{leading_mismatch}
use Rattle.cip_routing.specs.Object.{begins_with_manager}
use Rattle.cip_routing.specs.Links.{link_refusal}
use Rattle.cip_routing.specs.UnconnectedRows.{UnconnectedRow, Refuses, AnsweredHere, Forwarded, link_row, hop_row, key_row, route_row, embedded_row}
use Rattle.cip_routing.specs.UnconnectedRows.{unconnected_row}
use Rattle.cip_routing.specs.RequestRows.{UnconnectedSend}
use Rattle.cip_routing.specs.State.{State}
use Rattle.cip_routing.specs.Table.{unconnected_effects, unconnected_data_effects}
use Rattle.cip_laws.specs.Tells.{Came, AsksSend, SendUnread, SendFails, Embedded, AllTell, SentOn}
use Rattle.cip_routing.proofs.Conditions.{past, first_of}
use Rattle.cip_routing.proofs.SendsForwarded.{sent_on}

-- ---- what is answered here

link_answers : (hop : HopAt) (x : Option LinkRefusal) (asked : Request) → link_row hop x ≡ AnsweredHere asked → ⊥
link_answers hop (Some fault) asked e = cc
link_answers hop None asked e = cc

hop_answers : (config : ModuleSettings) (p : Pendings) (u : Unconnected) (x : Option HopAt) (asked : Request) → hop_row config p u x ≡ AnsweredHere asked → ⊥
hop_answers config p u None asked e = cc
hop_answers config p u (Some hop) asked e = link_answers hop (link_refusal config p u.timing hop.port hop.address) asked e

key_answers : (config : ModuleSettings) (p : Pendings) (u : Unconnected) (x : Option KeyPart) (asked : Request) → key_row config p u x ≡ AnsweredHere asked → ⊥
key_answers config p u (Some part) asked e = cc
key_answers config p u None asked e = hop_answers config p u (hop_of u.route) asked e

embedded_answers : (config : ModuleSettings) (p : Pendings) (u : Unconnected) (r : Result Request RequestFault) (asked : Request)
    → request_at u.request ≡ r → embedded_row config p u r ≡ AnsweredHere asked → (u.route ≡ []) × (request_at u.request ≡ Ok asked)
embedded_answers config p u (Err fault) asked read e = absurd (let other : Refuses EmbeddedRequestNotAllowed ≡ AnsweredHere asked = e in cc)
embedded_answers config p u (Ok embedded) asked read e =
    let allowed = past (begins_with_manager (segments_of embedded.path)) (Refuses EmbeddedRequestNotAllowed) (route_row config p u embedded)
    (AnsweredHere asked) e (λ other. cc) in
    let whole = first_of (eqb (length u.route) 0) (AnsweredHere embedded) (key_row config p u (leading_mismatch config (segments_of u.route)))
    (AnsweredHere asked) allowed.1
    (key_answers config p u (leading_mismatch config (segments_of u.route)) asked) in
    let both : AnsweredHere embedded ≡ AnsweredHere asked = whole.1 in
    let same : embedded ≡ asked = cc in
    (nil_from_length u.route (eqb-true (length u.route) 0 whole.0), read ∙ ap (λ (r : Request). Ok r) same)

answered_here : (config : ModuleSettings) (p : Pendings) (u : Unconnected) (asked : Request) → unconnected_row config p u ≡ AnsweredHere asked
    → (u.route ≡ []) × (request_at u.request ≡ Ok asked)
unfolding unconnected_row
answered_here config p u asked e = embedded_answers config p u (request_at u.request) asked refl e

-- ---- the group

send_told : (config : ModuleSettings) (s : State) (event : Event) (up : UpSide) (u : Unconnected) (row : UnconnectedRow) → AsksSend config s event up u
    → unconnected_row config s.pendings u ≡ row → AllTell config s event (unconnected_effects up u row)
send_told config s event up u (Refuses refusal) asks e = (SendFails u refusal asks e refl, tt)
send_told config s event up u (AnsweredHere asked) asks e = let h = answered_here config s.pendings u asked e in (Embedded u asks h.0 h.1, tt)
send_told config s event up u (Forwarded port address rest) asks e =
    let h = sent_on config s u port address rest e in (
      SentOn refl
          (record { u = u; rest = rest; embedded = h.0; asks = asks; meets = e; read = h.1; leads = h.2; bytes_are = refl; wait_is = refl; words_are = refl }),
      tt,
    )

pub sends_tell : (config : ModuleSettings) (s : State) (event : Event) (up : UpSide) (u : Unconnected) → AsksSend config s event up u
    → AllTell config s event (unconnected_effects up u (unconnected_row config s.pendings u))
sends_tell config s event up u asks = send_told config s event up u (unconnected_row config s.pendings u) asks refl

read_told : (config : ModuleSettings) (s : State) (event : Event) (up : UpSide) (asked : List ℕ) (r : Result Unconnected UnconnectedFault)
    → Came config event up (UnconnectedSend asked)
    → unconnected_at asked ≡ r → AllTell config s event (unconnected_data_effects config s up asked r)
read_told config s event up asked (Err fault) came e = (SendUnread asked fault came e refl, tt)
read_told config s event up asked (Ok u) came e = sends_tell config s event up u (inl (record { asked = asked; came = came; read = e }))

-- an Unconnected_Send in a frame
pub send_tells : (config : ModuleSettings) (s : State) (event : Event) (up : UpSide) (asked : List ℕ) → Came config event up (UnconnectedSend asked)
    → AllTell config s event (unconnected_data_effects config s up asked (unconnected_at asked))
send_tells config s event up asked came = read_told config s event up asked (unconnected_at asked) came refl
