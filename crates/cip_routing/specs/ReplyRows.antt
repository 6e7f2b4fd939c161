-- The reply group: which row a reply meets.
--
-- The rows in their order; the first that fits answers.
--     unknown port or too long  UnknownPortOrTooLong
--     late                      Late
--     malformed for its kind    MalformedForItsKind
--     open succeeded            OpenSucceeded
--     passed up                 PassedUp
use Rattle.std.specs.Prelude.{◌==◌, ◌&&◌, Bool, true, false, if◌then◌else◌, Option, Some, None, Result, Ok, Err, is_some, slice_get}
use Rattle.cip_base.specs.Words.{LinkAddress, Octets, PortIdentifier, RequestNumber}
use Rattle.cip_base.specs.declared.triad.Triad.{Triad}
use Rattle.cip_close.specs.declared.request.TheConstants.{FORWARD_CLOSE_REPLY}
use Rattle.cip_open.specs.Kinds.{open_reply_service}
use Rattle.cip_message.specs.Reply.{Reply}
use Rattle.cip_message.specs.ReplyAt.{reply_at}
use Rattle.cip_message.specs.Failure.{failure_at}
use Rattle.cip_message.specs.declared.failure.ConnectionFailure.{ConnectionFailure}
use Rattle.cip_message.specs.declared.fault.ReplyFault.{ReplyFault}
use Rattle.cip_message.specs.declared.fault.DataFault.{DataFault}
use Rattle.cip_open.specs.Success.{OpenSuccess}
use Rattle.cip_open.specs.SuccessAt.{open_reply_at}
use Rattle.cip_close.specs.Success.{CloseSuccess}
use Rattle.cip_close.specs.SuccessAt.{close_reply_at}
use Rattle.cip_pending.specs.declared.entry.Kind.{Kind}
use Rattle.cip_pending.specs.declared.entry.Kind.TheVariants.{Unconnected, Opening, OpeningLarge, Closing}
use Rattle.cip_pending.specs.declared.entry.Entry.{Entry}
use Rattle.cip_pending.specs.Pendings.{waiting_at}
use Rattle.cip_config.specs.declared.config.ModuleSettings.{ModuleSettings}
use Rattle.cip_routing.specs.RequestRows.{is_malformed}
use Rattle.cip_routing.specs.State.{State}

pub data ReplyRow : Type 0 where
  UnknownPortOrTooLong : ReplyRow
  Late : ReplyRow
  MalformedForItsKind : ReplyRow
  OpenSucceeded : (triad : Triad) → (success : OpenSuccess) → ReplyRow
  PassedUp : ReplyRow

abbrev pub triad_eq : Triad → Triad → Bool
triad_eq a b = a.serial == b.serial && (a.vendor == b.vendor && a.originator == b.originator)

-- a failure carries no triad, or the request's
abbrev pub is_own : Triad → Option Triad → Bool
is_own triad None = true
is_own triad (Some told) = triad_eq told triad

abbrev pub failure_row : Triad → Result ConnectionFailure DataFault → ReplyRow
failure_row triad (Err fault) = MalformedForItsKind
failure_row triad (Ok failure) = if is_own triad failure.triad then PassedUp
    else MalformedForItsKind

abbrev pub opened_row : Triad → Result OpenSuccess DataFault → ReplyRow
opened_row triad (Err fault) = MalformedForItsKind
opened_row triad (Ok success) = if triad_eq success.triad triad then OpenSucceeded triad success
    else MalformedForItsKind

abbrev pub closed_row : Triad → Result CloseSuccess DataFault → ReplyRow
closed_row triad (Err fault) = MalformedForItsKind
closed_row triad (Ok success) = if triad_eq success.triad triad then PassedUp
    else MalformedForItsKind

-- a success has no additional status and exactly its layout
abbrev pub opening_row : Triad → Reply → ReplyRow
opening_row triad r =
    if r.general == 0 then (if is_some (slice_get r.extra 0) then MalformedForItsKind
    else opened_row triad (open_reply_at r.data_))
    else failure_row triad (failure_at r.data_)

abbrev pub closing_row : Triad → Reply → ReplyRow
closing_row triad r =
    if r.general == 0 then (if is_some (slice_get r.extra 0) then MalformedForItsKind
    else closed_row triad (close_reply_at r.data_))
    else failure_row triad (failure_at r.data_)

-- to an open, large or not, one of its service
abbrev pub open_kind_row : Bool → Triad → Reply → ReplyRow
open_kind_row large triad r = if r.service == open_reply_service large then opening_row triad r
    else MalformedForItsKind

-- to an Unconnected_Send any reply that can be read; to an open or a close one of its service
abbrev pub kind_row : Kind → Reply → ReplyRow
kind_row Unconnected r = PassedUp
kind_row (Opening triad) r = open_kind_row false triad r
kind_row (OpeningLarge triad) r = open_kind_row true triad r
kind_row (Closing triad) r = if r.service == FORWARD_CLOSE_REPLY then closing_row triad r
    else MalformedForItsKind

abbrev pub read_row : Kind → Result Reply ReplyFault → ReplyRow
read_row kind (Err fault) = MalformedForItsKind
read_row kind (Ok reply) = kind_row kind reply

abbrev pub waiting_row : Octets → Option Entry → ReplyRow
waiting_row bytes None = Late
waiting_row bytes (Some entry) = read_row entry.kind (reply_at bytes)

-- the row of a reply that came in by a port from an address: its number has to wait for a reply
-- from there
unfoldable pub reply_row : ModuleSettings → State → PortIdentifier → LinkAddress → RequestNumber
    → Octets → ReplyRow
reply_row config s port from number bytes =
    if is_malformed config port bytes then UnknownPortOrTooLong
    else waiting_row bytes (waiting_at s.pendings number port from)
