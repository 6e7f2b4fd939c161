-- In a table that keeps each connection under its own triad, what a datum or a tick tells is of the connection that stands there.
use Rattle.std.proofs.Common.{◌≡◌, ℕ, List, refl, sym, ap, ◌∙◌, Option, Some, None}
use Rattle.std.specs.Option.{option_and_then}
use Rattle.std.specs.FinMap as map
use Rattle.cip_base.specs.declared.triad.Triad.{Triad}
use Rattle.cip_hops.specs.declared.hop.Hop.{Hop}
use Rattle.cip_hops.specs.declared.hop.Held.{Held}
use Rattle.cip_hops.specs.declared.hop.Side.{Side}
use Rattle.cip_hops.specs.declared.hop.Side.TheVariants.{Up, Down}
use Rattle.cip_hops.specs.Hops.{Hops, as_hop, hop_at, triad_of, is_hop_by_up, is_hop_by_down, is_hop_by_op}
use Rattle.cip_hops.proofs.Named.{is_open}
use Rattle.cip_event.specs.declared.event.Event.{Event}
use Rattle.cip_hops.specs.Hops.{AreOwnTriads}
use Rattle.cip_laws.specs.OwnTriads.{HasOwnTriads}
use Rattle.cip_routing.specs.State.{State}
use Rattle.cip_routing.specs.Table.{other}
use Rattle.cip_laws.specs.Tells.{DatumCame, Produced, RenewsAs, HopTimesOutAs, PassesAs, PassedOn, Entered, Made, CountsAs, CountedUp, CountedDown}
use Rattle.cip_routing.proofs.Found.{found_own}

held_stands : (h : Hops) (key : Triad) (hop : Hop) (x : Option Held) → AreOwnTriads h → map.get h.held key ≡ x → option_and_then as_hop x ≡ Some hop
    → hop.opening.triad ≡ key
held_stands h key hop None own at e = absurd (cc)
held_stands h key hop (Some x) own at e = sym (ap triad_of (is_open x hop e)) ∙ own key x at

-- a connection that stands anywhere stands under its own triad
pub own_stands : (h : Hops) (key : Triad) (hop : Hop) → AreOwnTriads h → hop_at h key ≡ Some hop → hop_at h hop.opening.triad ≡ Some hop
own_stands h key hop own e = ap (hop_at h) (held_stands h key hop (map.get h.held key) own refl e) ∙ e

pub came_stands : (s : State) (event : Event) (side : Side) (hop : Hop) (bytes : List ℕ) → HasOwnTriads s → DatumCame s event side hop bytes
    → hop_at s.hops hop.opening.triad ≡ Some hop
came_stands s event Up hop bytes own came = (found_own (is_hop_by_up came.id came.port came.from) s.hops hop came.found own).0
came_stands s event Down hop bytes own came = (found_own (is_hop_by_down came.id came.port came.from) s.hops hop came.found own).0

pub produced_stands : (s : State) (event : Event) (hop : Hop) (held : List ℕ) → HasOwnTriads s → Produced s event hop held
    → hop_at s.hops hop.opening.triad ≡ Some hop
produced_stands s event hop held own made = own_stands s.hops made.key hop own made.stands

under : (s : State) (triad : Triad) (hop : Hop) → triad ≡ hop.opening.triad → hop_at s.hops hop.opening.triad ≡ Some hop → hop_at s.hops triad ≡ Some hop
under s triad hop is stands = ap (hop_at s.hops) is ∙ stands

pub renews_stands : (s : State) (event : Event) (triad : Triad) (side : Side) → HasOwnTriads s → (h : RenewsAs s event triad side)
    → hop_at s.hops triad ≡ Some h.hop
renews_stands s event triad side own h = under s triad h.hop h.triad_is (came_stands s event side h.hop h.bytes own h.came)

pub hop_times_out_stands : (s : State) (event : Event) (triad : Triad) → HasOwnTriads s → (h : HopTimesOutAs s event triad) → hop_at s.hops triad ≡ Some h.hop
hop_times_out_stands s event triad own h = under s triad h.hop h.triad_is (own_stands s.hops h.key h.hop own h.stands)

-- the connection of a datum that goes on, and of one that is counted
abbrev pub passing : (s : State) (event : Event) (triad : Triad) (side : Side) (bytes : List ℕ) → PassesAs s event triad side bytes → Hop
passing s event triad side bytes (PassedOn hop is came) = hop
passing s event triad side bytes (Entered of hop is down event_is found sized) = hop
passing s event triad side bytes (Made held hop is up bytes_are made) = hop

pub passes_stands : (s : State) (event : Event) (triad : Triad) (side : Side) (bytes : List ℕ) → HasOwnTriads s → (h : PassesAs s event triad side bytes)
    → hop_at s.hops triad ≡ Some (passing s event triad side bytes h)
passes_stands s event triad side bytes own (PassedOn hop is came) = under s triad hop is (came_stands s event (other side) hop bytes own came)
passes_stands s event triad side bytes own (Entered of hop is down event_is found sized) =
    under s triad hop is (found_own (is_hop_by_op of) s.hops hop found own).0
passes_stands s event triad side bytes own (Made held hop is up bytes_are made) = under s triad hop is (produced_stands s event hop held own made)

abbrev pub counting : (s : State) (event : Event) (triad : Triad) (side : Side) (count : ℕ) → CountsAs s event triad side count → Hop
counting s event triad side count (CountedUp hop instance datum is up class count_is written) = hop
counting s event triad side count (CountedDown hop held is down class count_is made) = hop

pub counts_stands : (s : State) (event : Event) (triad : Triad) (side : Side) (count : ℕ) → HasOwnTriads s → (h : CountsAs s event triad side count)
    → hop_at s.hops triad ≡ Some (counting s event triad side count h)
counts_stands s event triad side count own (CountedUp hop instance datum is up class count_is written) =
    under s triad hop is (came_stands s event Up hop datum own written.came)
counts_stands s event triad side count own (CountedDown hop held is down class count_is made) = under s triad hop is (produced_stands s event hop held own made)
