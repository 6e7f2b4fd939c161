-- What a command finds that is taken, and why another one is refused.
use Rattle.std.specs.Prelude.{◌≡◌, false, length, Option, Some, Result, Ok, Err}
use Rattle.cip_base.specs.Words.{Octets, OpNumber}
use Rattle.cip_unconnected.specs.Unconnected.{Unconnected, Fits}
use Rattle.cip_hops.specs.declared.hop.Hop.{Hop}
use Rattle.cip_event.specs.declared.event.Refused.{Refused}
use Rattle.cip_event.specs.declared.event.Refused.TheVariants as refused
use Rattle.cip_routing.specs.CommandRows.{CommandRow, OpUsed, NotOpen, ReservedService, WrongSize, NoInstance, Taken}
use Rattle.cip_routing.specs.State.{State, is_spent}

-- the row of a command that is refused so
abbrev pub row_of : Refused → CommandRow
row_of refused.OpUsed = OpUsed
row_of refused.NotOpen = NotOpen
row_of refused.WrongSize = WrongSize
row_of refused.ReservedService = ReservedService
row_of refused.NoInstance = NoInstance

-- the row was found: the command is taken, and this holds of what it finds; or it is refused
abbrev pub Decides : {T : Type 0} → (T → Type 0) → CommandRow → Result T Refused → Type 0
Decides Finds row (Ok found) = (row ≡ Taken) × Finds found
Decides Finds row (Err fault) = row ≡ row_of fault

-- an op that is new
abbrev pub IsNew : State → OpNumber → Type 0
IsNew s op = is_spent op s.ops ≡ false

-- a Send: its op is new, and a message may carry it
abbrev pub CanSend : State → OpNumber → Unconnected → Type 0
CanSend s op u = IsNew s op × Fits u

-- an Enter: the connection, whose size is that of the datum
abbrev pub CanEnter : Octets → Option Hop → Hop → Type 0
CanEnter bytes found hop = (found ≡ Some hop) × (length bytes ≡ hop.opening.ot_size)
