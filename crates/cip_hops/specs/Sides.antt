-- The two sides of a connection, and the ids that they draw.
use Rattle.std.specs.Prelude.{ℕ, ◌+◌, Bool, true, false, ◌&&◌, ◌==◌, Option, Some, None, if◌then◌else◌}
use Rattle.std.specs.Str.{bytes_eq}
use Rattle.cip_base.specs.Words.{LinkAddress, PortIdentifier, ConnectionId, OpNumber}
use Rattle.cip_hops.specs.declared.opening.HopUp.{HopUp}
use Rattle.cip_hops.specs.declared.opening.HopUp.TheVariants.{Link as UpLink, Local}
use Rattle.cip_hops.specs.declared.opening.HopDown.{HopDown}
use Rattle.cip_hops.specs.declared.opening.HopDown.TheVariants.{Link as DownLink, End}
use Rattle.cip_hops.specs.declared.opening.Opening.{Opening}
use Rattle.cip_hops.specs.declared.opening.OwnIds.{OwnIds}

abbrev pub up_is_link : HopUp → Bool
up_is_link (UpLink port address their_id) = true
up_is_link (Local op) = false

abbrev pub down_is_link : HopDown → Bool
down_is_link (DownLink port address) = true
down_is_link (End config consume produce) = false

-- the op of a command
abbrev pub op_of : HopUp → Option OpNumber
op_of (UpLink port address their_id) = None
op_of (Local op) = Some op

-- the link by this port to this address
abbrev pub up_is : PortIdentifier → LinkAddress → HopUp → Bool
up_is port address (UpLink p a their_id) = p == port && bytes_eq a address
up_is port address (Local op) = false

abbrev pub down_is : PortIdentifier → LinkAddress → HopDown → Bool
down_is port address (DownLink p a) = p == port && bytes_eq a address
down_is port address (End config consume produce) = false

-- an id for each side that is a link
abbrev pub ids_drawn : Opening → ℕ
ids_drawn o = (if down_is_link o.down then 1 else 0) + (if up_is_link o.up then 1 else 0)

-- the next ids, that of the down side first
abbrev pub own_ids : ConnectionId → Opening → OwnIds
own_ids next o = record {
  up = if up_is_link o.up then Some (next + (if down_is_link o.down then 1 else 0)) else None;
  down = if down_is_link o.down then Some next else None;
}
