-- The request group: which row answers a request (Volume 1, chapter 2 for the Message Router,
-- chapter 3 for the Connection Manager).
--
-- The rows in their order; the first that fits answers.
--     unknown port or too long             UnknownPortOrTooLong
--     not a request                        NotARequest
--     path past the end                    Refuses service PathPastTheEnd
--     path unreadable                      Refuses service PathUnreadable
--     path form not supported              Refuses service PathFormNotSupported
--     no such Connection Manager instance  Refuses service NoSuchManagerInstance
--     service not supported                Refuses service ServiceNotSupported
--     Connection Manager                   UnconnectedSend, ForwardOpen, ForwardClose
--     target                               Target
use Rattle.std.specs.Prelude.{ℕ, ◌==◌, ◌||◌, nat_lt, not, if◌then◌else◌, Option, Some, None, Result, Ok, Err, length, slice_index, is_some, Bool, true, false}
use Rattle.cip_base.specs.Words.{Octets, PortIdentifier}
use Rattle.cip_base.specs.declared.limits.TheConstants.{MAX_MESSAGE}
use Rattle.cip_message.specs.declared.request.TheConstants.{CONNECTION_MANAGER}
use Rattle.cip_close.specs.declared.request.TheConstants.{FORWARD_CLOSE}
use Rattle.cip_open.specs.declared.kinds.TheConstants.{FORWARD_OPEN, LARGE_FORWARD_OPEN}
use Rattle.cip_unconnected.specs.declared.unconnected.TheConstants.{UNCONNECTED_SEND}
use Rattle.cip_segment.specs.Reading.{segments_of}
use Rattle.cip_message.specs.Request.{Request}
use Rattle.cip_message.specs.RequestAt.{request_at}
use Rattle.cip_message.specs.declared.fault.RequestFault.{RequestFault}
use Rattle.cip_message.specs.declared.fault.RequestFault.TheVariants.{TooShort, PathSize, Path, NotRequest}
use Rattle.cip_config.specs.declared.config.ModuleSettings.{ModuleSettings}
use Rattle.cip_target.specs.declared.object.ObjectPath.{ObjectPath}
use Rattle.cip_routing.specs.declared.refusals.RequestRefusal.{RequestRefusal}
use Rattle.cip_routing.specs.declared.refusals.RequestRefusal.TheVariants.{PathPastTheEnd, PathUnreadable, PathFormNotSupported, NoSuchManagerInstance}
use Rattle.cip_routing.specs.declared.refusals.RequestRefusal.TheVariants.{ServiceNotSupported}
use Rattle.cip_config.specs.Config.{port_of}
use Rattle.cip_target.specs.Object.{object_of}

pub data RequestRow : Type 0 where
  UnknownPortOrTooLong : RequestRow
  NotARequest : RequestRow
  Refuses : (service : ℕ) → (refusal : RequestRefusal) → RequestRow
  -- the Connection Manager: an Unconnected_Send, a Forward_Open or Large_Forward_Open, or a
  -- Forward_Close with this data
  UnconnectedSend : (sent : Octets) → RequestRow
  ForwardOpen : (large : Bool) → (asked : Octets) → RequestRow
  ForwardClose : (asked : Octets) → RequestRow
  Target : (request : Request) → RequestRow

-- the Connection Manager's instance first, then its services
abbrev pub manager_row : Request → ObjectPath → RequestRow
manager_row r object =
    if not (object.instance == 1) then Refuses r.service NoSuchManagerInstance
    else if r.service == UNCONNECTED_SEND then UnconnectedSend r.data_
    else if r.service == FORWARD_OPEN then ForwardOpen false r.data_
    else if r.service == LARGE_FORWARD_OPEN then ForwardOpen true r.data_
    else if r.service == FORWARD_CLOSE then ForwardClose r.data_
    else Refuses r.service ServiceNotSupported

abbrev pub object_row : Request → Option ObjectPath → RequestRow
object_row r None = Refuses r.service PathFormNotSupported
object_row r (Some object) = if object.class_ == CONNECTION_MANAGER then manager_row r object
    else Target r

-- of bytes that cannot be read as a request, by their first byte's service
abbrev pub unread_row : ℕ → RequestFault → RequestRow
unread_row service TooShort = NotARequest
unread_row service NotRequest = NotARequest
unread_row service PathSize = Refuses service PathPastTheEnd
unread_row service (Path fault) = Refuses service PathUnreadable

abbrev pub read_row : Octets → Result Request RequestFault → RequestRow
read_row bytes (Err fault) = unread_row (slice_index bytes 0) fault
read_row bytes (Ok r) = object_row r (object_of (segments_of r.path))

abbrev pub is_malformed : ModuleSettings → PortIdentifier → Octets → Bool
is_malformed config port bytes = not (is_some (port_of config port))
    || nat_lt MAX_MESSAGE (length bytes)

-- this row, unless it is dropped by the first
abbrev pub unless_malformed : ModuleSettings → PortIdentifier → Octets → RequestRow → RequestRow
unless_malformed config port bytes row =
    if is_malformed config port bytes then UnknownPortOrTooLong else row

-- the row of a request that came in by a port
unfoldable pub request_row : ModuleSettings → PortIdentifier → Octets → RequestRow
request_row config port bytes =
    unless_malformed config port bytes (read_row bytes (request_at bytes))
