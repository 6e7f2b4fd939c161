-- What a Forward_Open tells, read backwards.
use Rattle.std.proofs.Common.{◌≡◌, ℕ, true, is_some, List, refl, ap, inl, Option, Some, None, Result, Ok, Err, Bool, subst, sym}
use Rattle.std.specs.FinMap as map
use Rattle.cip_segment.specs.Reading.{HopAt, hop_of, segments_of}
use Rattle.cip_message.specs.declared.fault.DataFault.{DataFault}
use Rattle.cip_open.specs.Open.{Open}
use Rattle.cip_open.specs.OpenAt.{open_at}
use Rattle.cip_pending.specs.declared.entry.UpSide.{UpSide}
use Rattle.cip_hops.specs.declared.opening.HopUp.{HopUp}
use Rattle.cip_hops.specs.Sides.{up_is_link}
use Rattle.cip_hops.specs.Hops.{Hops, refusal}
use Rattle.cip_target.specs.declared.link.EndLink.{EndLink}
use Rattle.cip_target.specs.Ends.{EndRow, end_row}
use Rattle.cip_target.specs.declared.ends.EndRefusal.TheVariants.{NotAnApplicationPath}
use Rattle.cip_config.specs.declared.config.ModuleSettings.{ModuleSettings}
use Rattle.cip_event.specs.declared.event.Event.{Event}
use Rattle.cip_routing.specs.declared.refusals.KeyPart.{KeyPart}
use Rattle.cip_routing.specs.declared.refusals.LinkRefusal.{LinkRefusal}
use Rattle.cip_routing.specs.declared.refusals.OpenRefusal.TheVariants.{NoRoomToPassOn, NotAccepted, NoRoomToEndHere}
use Rattle.cip_routing.specs.Keys.{leading_mismatch}
use Rattle.cip_routing.specs.Links.{link_refusal}
use Rattle.cip_routing.specs.OpenRows.{OpenRow, Refuses, Forwarded, Accepted, accepted_row, here_row, ids_if_forwarded, on_row, hop_row, key_row, open_row}
use Rattle.cip_routing.specs.OpenRows.{is_consumed}
use Rattle.cip_routing.specs.RequestRows.{ForwardOpen}
use Rattle.cip_routing.specs.State.{State}
use Rattle.cip_routing.specs.Table.{up_side_of, open_effects, open_data_effects}
use Rattle.cip_laws.specs.Tells.{Came, AsksOpen, OpenUnread, OpenFails, OpenEnds, AllTell, OpenCame}
use Rattle.cip_routing.proofs.Conditions.{past, past_not, none_is}
use Rattle.cip_routing.proofs.OpensForwarded.{past_all, open_forwards}
use Rattle.cip_open.proofs.ReadAgain.{large_read}

-- ---- an open that ends here

abbrev EndsHere : State → HopUp → Open → EndLink → Type 0
EndsHere s up o link = (up_is_link up ≡ true) × (end_row s.assemblies (is_consumed s.hops) o ≡ Ok link) × (refusal s.hops o.fields.triad 1 ≡ None)

abbrev fits : EndLink → EndRow
fits link = Ok link

ends_accept : (h : Hops) (o : Open) (row : EndRow) (link : EndLink) → accepted_row h o row ≡ Accepted link
    → (row ≡ Ok link) × (refusal h o.fields.triad 1 ≡ None)
ends_accept h o (Err refused) link e = absurd (cc)
ends_accept h o (Ok own) link e =
    let tested = past (is_some (refusal h o.fields.triad 1)) (Refuses NoRoomToEndHere) (Accepted own) (Accepted link) e (λ other. cc) in
    let both : Accepted own ≡ Accepted link = tested.1 in
    let same : own ≡ link = cc in
    (ap fits same, none_is (refusal h o.fields.triad 1) tested.0)

here_accepts : (s : State) (up : HopUp) (o : Open) (link : EndLink) → here_row s up o ≡ Accepted link → EndsHere s up o link
here_accepts s up o link e =
    let row = end_row s.assemblies (is_consumed s.hops) o in
    let tested = past_not (up_is_link up) (Refuses (NotAccepted NotAnApplicationPath)) (accepted_row s.hops o row) (Accepted link) e (λ other. cc) in
    let accepted = ends_accept s.hops o row link tested.1 in
    (tested.0, accepted.0, accepted.1)

on_accepts : (s : State) (up : HopUp) (o : Open) (hop : HopAt) (x : Option LinkRefusal) (link : EndLink) → on_row s up o hop x ≡ Accepted link → ⊥
on_accepts s up o hop (Some fault) link e = cc
on_accepts s up o hop None link e =
    let tested = past (is_some (refusal s.hops o.fields.triad (ids_if_forwarded up))) (Refuses NoRoomToPassOn)
    (Forwarded hop.port hop.address hop.rest) (Accepted link) e
    (λ other. cc) in
    let other : Forwarded hop.port hop.address hop.rest ≡ Accepted link = tested.1 in
    cc

hop_accepts : (config : ModuleSettings) (s : State) (up : HopUp) (o : Open) (x : Option HopAt) (link : EndLink)
    → hop_row config s up o x ≡ Accepted link → (x ≡ None) × EndsHere s up o link
hop_accepts config s up o None link e = (refl, here_accepts s up o link e)
hop_accepts config s up o (Some hop) link e = absurd (on_accepts s up o hop (link_refusal config s.pendings o.fields.timing hop.port hop.address) link e)

key_accepts : (config : ModuleSettings) (s : State) (up : HopUp) (o : Open) (x : Option KeyPart) (link : EndLink)
    → key_row config s up o x ≡ Accepted link → (hop_of o.path ≡ None) × EndsHere s up o link
key_accepts config s up o (Some part) link e = absurd (cc)
key_accepts config s up o None link e = hop_accepts config s up o (hop_of o.path) link e

open_accepts : (config : ModuleSettings) (s : State) (up : HopUp) (o : Open) (link : EndLink) → open_row config s up o ≡ Accepted link
    → (map.get s.hops.held o.fields.triad ≡ None) × ((hop_of o.path ≡ None) × EndsHere s up o link)
open_accepts config s up o link e =
    let h = past_all config s up o (Accepted link) e (λ other. cc) (λ other. cc) (λ other. cc) in
    (h.0, key_accepts config s up o (leading_mismatch config (segments_of o.path)) link h.1)

-- ---- the group

open_told : (config : ModuleSettings) (s : State) (event : Event) (up : UpSide) (o : Open) (row : OpenRow) → AsksOpen config s event up o
    → open_row config s (up_side_of up o.fields.to_id) o ≡ row → AllTell config s event (open_effects s up o row)
open_told config s event up o (Refuses fault) asks e = (OpenFails o fault asks e refl, tt)
open_told config s event up o (Forwarded port address rest) asks e =
    let h = open_forwards config s (up_side_of up o.fields.to_id) o port address rest e in (
      record {
        o = o;
        rest = rest;
        asks = asks;
        meets = e;
        leads = h.1.0;
        free = h.0;
        room = h.1.1;
        bytes_are = refl;
        wait_is = refl;
        words_are =
            refl;
        opening_is = refl;
      },
      tt,
    )
open_told config s event up o (Accepted link) asks e =
    let h = open_accepts config s (up_side_of up o.fields.to_id) o link e in (
      record { up = up; asks = asks; meets = e; came = h.1.1.0; ends = h.1.0; fits = h.1.1.1; free = h.0; room = h.1.1.2; opening_is = refl },
      (OpenEnds o link asks e refl, tt),
    )

pub opens_tell : (config : ModuleSettings) (s : State) (event : Event) (up : UpSide) (o : Open) → AsksOpen config s event up o
    → AllTell config s event (open_effects s up o (open_row config s (up_side_of up o.fields.to_id) o))
opens_tell config s event up o asks = open_told config s event up o (open_row config s (up_side_of up o.fields.to_id) o) asks refl

came_open : (config : ModuleSettings) (event : Event) (up : UpSide) (large : Bool) (asked : List ℕ) (o : Open) → o.fields.large ≡ large
    → Came config event up (ForwardOpen large asked) → open_at large asked ≡ Ok o → OpenCame config event up o
came_open config event up large asked o same came e = record {
  asked = asked;
  came = subst (λ (l : Bool). Came config event up (ForwardOpen l asked)) (sym same) came;
  read = subst (λ (l : Bool). open_at l asked ≡ Ok o) (sym same) e;
}

read_told : (config : ModuleSettings) (s : State) (event : Event) (up : UpSide) (large : Bool) (asked : List ℕ) (r : Result Open DataFault)
    → Came config event up (ForwardOpen large asked)
    → open_at large asked ≡ r → AllTell config s event (open_data_effects config s up large asked r)
read_told config s event up large asked (Err fault) came e = (OpenUnread large asked fault came e refl, tt)
read_told config s event up large asked (Ok o) came e =
    opens_tell config s event up o (inl (came_open config event up large asked o (large_read large asked o e) came e))

-- an open, large or not, in a frame
pub open_tells : (config : ModuleSettings) (s : State) (event : Event) (up : UpSide) (large : Bool) (asked : List ℕ)
    → Came config event up (ForwardOpen large asked) → AllTell config s event (open_data_effects config s up large asked (open_at large asked))
open_tells config s event up large asked came = read_told config s event up large asked (open_at large asked) came refl
