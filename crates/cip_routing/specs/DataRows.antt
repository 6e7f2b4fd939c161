-- The data group: which row a datum of a connection meets.
--
-- The rows in their order; the first that fits answers.
--     unknown id  UnknownId
--     wrong size  WrongSize
--     passed on   PassedOn
--     repeated    Repeated
--     consumed    Consumed
--     arrived     Arrived
use Rattle.std.specs.Prelude.{ℕ, ◌==◌, Bool, not, false, if◌then◌else◌, Option, Some, None, length, drop, is_some}
use Rattle.std.specs.Option.{option_map_or}
use Rattle.cip_base.specs.Words.{ConnectionId, InstanceNumber, LinkAddress, Octets, PortIdentifier}
use Rattle.cip_base.specs.declared.triad.Triad.{Triad}
use Rattle.cip_message.specs.Numbers.{word_in}
use Rattle.cip_hops.specs.declared.opening.HopUp.{HopUp}
use Rattle.cip_hops.specs.declared.opening.HopUp.TheVariants.{Link as UpLink, Local as UpLocal}
use Rattle.cip_hops.specs.declared.opening.HopDown.{HopDown}
use Rattle.cip_hops.specs.declared.opening.HopDown.TheVariants.{Link as DownLink, End}
use Rattle.cip_hops.specs.declared.hop.Hop.{Hop}
use Rattle.cip_hops.specs.declared.hop.Side.{Side}
use Rattle.cip_hops.specs.declared.hop.Side.TheVariants.{Up, Down}
use Rattle.cip_hops.specs.Hops.{hop_by_up, hop_by_down}
use Rattle.cip_config.specs.declared.config.ModuleSettings.{ModuleSettings}
use Rattle.cip_config.specs.Config.{port_of}
use Rattle.cip_routing.specs.State.{State}

pub data DataRow : Type 0 where
  UnknownId : DataRow
  WrongSize : DataRow
  -- it came in by this side of the connection, and goes on by the other
  PassedOn : (triad : Triad) → (from : Side) → DataRow
  -- written to the O→T assembly, without its sequence count
  Consumed : (triad : Triad) → (instance : InstanceNumber) → (count : Option ℕ) → (written : Octets)
      → DataRow
  -- the sequence count is that of the last one
  Repeated : (triad : Triad) → DataRow
  -- at the command that opened the connection
  Arrived : (triad : Triad) → DataRow

abbrev pub is_last : ℕ → Option ℕ → Bool
is_last count last = option_map_or (λ n. n == count) last false

-- at an end: in class 1 the datum begins with its sequence count
abbrev pub end_row : Hop → InstanceNumber → Octets → DataRow
end_row hop instance bytes =
    if not (hop.opening.class == 1) then Consumed hop.opening.triad instance None bytes
    else if is_last (word_in bytes 0) hop.consumed then Repeated hop.opening.triad
    else Consumed hop.opening.triad instance (Some (word_in bytes 0)) (drop 2 bytes)

abbrev pub below_row : Hop → Octets → HopDown → DataRow
below_row hop bytes (DownLink port address) = PassedOn hop.opening.triad Up
below_row hop bytes (End config consume produce) = end_row hop consume bytes

abbrev pub above_row : Hop → HopUp → DataRow
above_row hop (UpLink port address their_id) = PassedOn hop.opening.triad Down
above_row hop (UpLocal op) = Arrived hop.opening.triad

-- from the device above
abbrev pub from_up_row : Octets → Hop → DataRow
from_up_row bytes hop = if not (length bytes == hop.opening.ot_size) then WrongSize
    else below_row hop bytes hop.opening.down

-- from the device below
abbrev pub from_down_row : Octets → Option Hop → DataRow
from_down_row bytes None = UnknownId
from_down_row bytes (Some hop) = if not (length bytes == hop.opening.to_size) then WrongSize
    else above_row hop hop.opening.up

abbrev pub id_row : Octets → Option Hop → Option Hop → DataRow
id_row bytes (Some hop) below = from_up_row bytes hop
id_row bytes None below = from_down_row bytes below

-- the row of a datum that came in by a port from an address, under an id
unfoldable pub data_row : ModuleSettings → State → PortIdentifier → LinkAddress → ConnectionId
    → Octets → DataRow
data_row config s port from id bytes =
    if not (is_some (port_of config port)) then UnknownId
    else id_row bytes (hop_by_up s.hops id port from) (hop_by_down s.hops id port from)
