-- Where a datum of a connection goes on (Volume 1, chapter 3, connected data): between two links it
-- goes out by the other side, and the side by which it came is watched anew.
use Rattle.std.specs.Prelude.{ℕ, ◌==◌, Bool, Option, Some, None, if◌then◌else◌, option_and_then}
use Rattle.std.specs.Option.{option_map_or}
use Rattle.cip_base.specs.Words.{LinkAddress, PortIdentifier, ConnectionId, Microseconds}
use Rattle.cip_hops.specs.declared.opening.HopUp.{HopUp}
use Rattle.cip_hops.specs.declared.opening.HopUp.TheVariants.{Link as UpLink, Local}
use Rattle.cip_hops.specs.declared.opening.HopDown.{HopDown}
use Rattle.cip_hops.specs.declared.opening.HopDown.TheVariants.{Link as DownLink, End}
use Rattle.cip_hops.specs.declared.hop.Hop.{Hop}
use Rattle.cip_hops.specs.declared.hop.Side.{Side}
use Rattle.cip_hops.specs.declared.hop.Side.TheVariants.{Up, Down}
use Rattle.cip_hops.specs.declared.onward.Onward.{Onward}
use Rattle.cip_hops.specs.Sides.{up_is, down_is}
use Rattle.cip_hops.specs.Hops.{Hops, hop_by_up, hop_by_down, changed, touched}

-- out by the up side: to the node above, under the id that it chose
abbrev pub onward_up : HopUp → Option Onward
onward_up (UpLink port address their_id) =
    Some (record { port = port; address = address; id = their_id })
onward_up (Local op) = None

-- out by the down side: to the node below, under the id that it chose
abbrev pub onward_down : Option ConnectionId → HopDown → Option Onward
onward_down their_id (DownLink port address) = Some (record {
  port = port;
  address = address;
  id = option_map_or (λ id. id) their_id 0;
})
onward_down their_id (End config consume produce) = None

-- of so many bytes, in by this side
abbrev pub onward_by : Side → ℕ → Hop → Option Onward
onward_by Up size hop =
    if size == hop.opening.ot_size then onward_down hop.their_id hop.opening.down else None
onward_by Down size hop =
    if size == hop.opening.to_size then onward_up hop.opening.up else None

abbrev pub on_side : {A : Type 0} → Side → A → A → A
on_side Up up down = up
on_side Down up down = down

abbrev pub side_is : Side → PortIdentifier → LinkAddress → Hop → Bool
side_is Up port address hop = up_is port address hop.opening.up
side_is Down port address hop = down_is port address hop.opening.down

-- the hop of which this is the own id on this side, on the link by this port to this address
abbrev pub hop_by : Side → Hops → ConnectionId → PortIdentifier → LinkAddress → Option Hop
hop_by Up h id port address = hop_by_up h id port address
hop_by Down h id port address = hop_by_down h id port address

abbrev pub onward_of : Side → ℕ → Option Hop → Option Onward
onward_of side size hop = option_and_then (onward_by side size) hop

-- where it goes on, the side by which it came is watched anew from now on
abbrev pub after_onward : Hops → Side → Microseconds → Option Hop → Option Onward → Hops
after_onward h side now (Some hop) (Some onward) =
    changed h hop.opening.triad (touched side now)
after_onward h side now (Some hop) None = h
after_onward h side now None onward = h
