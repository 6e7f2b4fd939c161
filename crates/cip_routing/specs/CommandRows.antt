-- The command group: which row a command meets.
--
-- The rows in their order; the first that fits answers.
--     op used                                  OpUsed
--     not open                                 NotOpen
--     reserved service                         ReservedService
--     wrong size                               WrongSize
--     no instance, of a Set before wrong size  NoInstance
--     taken                                    Taken
use Rattle.std.specs.Prelude.{ℕ, ◌==◌, not, is_some, if◌then◌else◌, List, length, slice_index, Option, Some, None}
use Rattle.cip_base.specs.Words.{Octets, OpNumber}
use Rattle.cip_unconnected.specs.declared.unconnected.TheConstants.{UNCONNECTED_SEND}
use Rattle.cip_unconnected.specs.Unconnected.{Unconnected, is_too_long}
use Rattle.cip_hops.specs.declared.hop.Hop.{Hop}
use Rattle.cip_hops.specs.Hops.{hop_by_op}
use Rattle.cip_routing.specs.State.{State, is_spent}

-- all but `Taken` refuse the command
pub data CommandRow : Type 0 where
  OpUsed : CommandRow
  NotOpen : CommandRow
  ReservedService : CommandRow
  WrongSize : CommandRow
  NoInstance : CommandRow
  Taken : CommandRow

-- the row of an Open
abbrev pub op_row : State → OpNumber → CommandRow
op_row s op = if is_spent op s.ops then OpUsed else Taken

-- the row of a Close of the connection that the op `of` opened
abbrev pub close_command_row : State → OpNumber → OpNumber → CommandRow
close_command_row s op of =
    if is_spent op s.ops then OpUsed
    else if not (is_some (hop_by_op s.hops of)) then NotOpen
    else Taken

-- the row of a Send, as the Unconnected_Send that it spells
unfoldable pub send_row : State → OpNumber → Unconnected → CommandRow
send_row s op u =
    if is_spent op s.ops then OpUsed
    else if slice_index u.request 0 == UNCONNECTED_SEND then ReservedService
    else if is_too_long u then WrongSize
    else Taken

-- the row of an Enter by the connection that the op opened
abbrev pub enter_row : Octets → Option Hop → CommandRow
enter_row bytes None = NotOpen
enter_row bytes (Some hop) = if length bytes == hop.opening.ot_size then Taken else WrongSize

-- the row of a Set of an assembly
abbrev pub set_row : Octets → Option ℕ → CommandRow
set_row bytes None = NoInstance
set_row bytes (Some size) = if length bytes == size then Taken else WrongSize

-- the row of a Produce of an assembly
abbrev pub produce_row : Option (List ℕ) → CommandRow
produce_row None = NoInstance
produce_row (Some held) = Taken
