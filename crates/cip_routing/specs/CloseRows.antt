-- The close group: which row answers a Forward_Close (Volume 1, chapter 3, Forward_Close).
--
-- The rows in their order; the first that fits answers.
--     cut in the fixed part         CutInTheFixedPart (unread_row)
--     cut in the path               CutInThePath (unread_row)
--     bytes after the path          BytesAfterThePath (unread_row)
--     path unreadable               PathUnreadable (unread_row)
--     not this sender's open triad  Refuses NotThisSendersOpenTriad
--     path differs from the hop's   Refuses PathDiffersFromTheHops
--     time-out ticks spent          Refuses (NotSentOn TicksSpent)
--     no pending left               Refuses (NotSentOn NoPendingLeft)
--     forwarded                     Forwarded
--     closed at the end             ClosedAtTheEnd
use Rattle.std.specs.Prelude.{◌==◌, Bool, not, ◌&&◌, nat_lt, if◌then◌else◌, Option, Some, None, length, is_some}
use Rattle.std.specs.Str.{bytes_eq}
use Rattle.cip_base.specs.Words.{LinkAddress, Octets, PortIdentifier}
use Rattle.cip_close.specs.declared.request.TheConstants.{CLOSE_FIXED_PART}
use Rattle.cip_segment.specs.Reading.{HopAt, hop_of}
use Rattle.cip_message.specs.declared.fault.DataFault.{DataFault}
use Rattle.cip_message.specs.declared.fault.DataFault.TheVariants.{Short, Long, Path}
use Rattle.cip_close.specs.Close.{Close}
use Rattle.cip_pending.specs.declared.entry.UpSide.{UpSide}
use Rattle.cip_pending.specs.declared.entry.UpSide.TheVariants.{Link, Local}
use Rattle.cip_pending.specs.Pendings.{Pendings}
use Rattle.cip_hops.specs.declared.opening.HopUp.{HopUp}
use Rattle.cip_hops.specs.declared.opening.HopDown.{HopDown}
use Rattle.cip_hops.specs.declared.opening.HopDown.TheVariants.{Link as DownLink, End}
use Rattle.cip_hops.specs.declared.hop.Hop.{Hop}
use Rattle.cip_hops.specs.Sides.{up_is, op_of}
use Rattle.cip_hops.specs.Hops.{hop_at, is_id}
use Rattle.cip_routing.specs.declared.refusals.LinkRefusal.{LinkRefusal}
use Rattle.cip_routing.specs.declared.refusals.CloseRefusal.{CloseRefusal}
use Rattle.cip_routing.specs.declared.refusals.CloseRefusal.TheVariants.{CutInTheFixedPart, CutInThePath, BytesAfterThePath, PathUnreadable}
use Rattle.cip_routing.specs.declared.refusals.CloseRefusal.TheVariants.{NotThisSendersOpenTriad, PathDiffersFromTheHops, NotSentOn}
use Rattle.cip_routing.specs.Links.{wait_refusal}
use Rattle.cip_routing.specs.State.{State}

pub data CloseRow : Type 0 where
  Refuses : (refusal : CloseRefusal) → CloseRow
  Forwarded : (port : PortIdentifier) → (address : LinkAddress) → (rest : Octets) → CloseRow
  ClosedAtTheEnd : CloseRow

-- whether a request from there is from the connection's up side: by port and address, or by the op
-- that opened it
abbrev pub is_sender : UpSide → HopUp → Bool
is_sender (Link port address number) up = up_is port address up
is_sender (Local of) up = is_id of (op_of up)

abbrev pub wait_row : PortIdentifier → LinkAddress → Octets → Option LinkRefusal → CloseRow
wait_row port address rest (Some fault) = Refuses (NotSentOn fault)
wait_row port address rest None = Forwarded port address rest

-- a link below: the path has to lead there
abbrev pub below_row : Pendings → Close → PortIdentifier → LinkAddress → Option HopAt → CloseRow
below_row p c port address None = Refuses PathDiffersFromTheHops
below_row p c port address (Some hop) =
    if not (hop.port == port && bytes_eq hop.address address) then Refuses PathDiffersFromTheHops
    else wait_row port address hop.rest (wait_refusal p c.fields.timing)

-- an end: the path leads nowhere
abbrev pub down_row : Pendings → Close → HopDown → CloseRow
down_row p c (DownLink port address) = below_row p c port address (hop_of c.path)
down_row p c (End config consume produce) =
    if is_some (hop_of c.path) then Refuses PathDiffersFromTheHops else ClosedAtTheEnd

abbrev pub triad_row : Pendings → UpSide → Close → Option Hop → CloseRow
triad_row p sender c None = Refuses NotThisSendersOpenTriad
triad_row p sender c (Some hop) =
    if not (is_sender sender hop.opening.up) then Refuses NotThisSendersOpenTriad
    else down_row p c hop.opening.down

-- the row of a Forward_Close that was read
unfoldable pub close_row : State → UpSide → Close → CloseRow
close_row s sender c = triad_row s.pendings sender c (hop_at s.hops c.fields.triad)

-- the row of data that cannot be read as a Forward_Close
abbrev pub unread_row : Octets → DataFault → CloseRefusal
unread_row d Short = if nat_lt (length d) CLOSE_FIXED_PART then CutInTheFixedPart else CutInThePath
unread_row d Long = BytesAfterThePath
unread_row d (Path fault) = PathUnreadable
