-- The open group: which row answers a Forward_Open or a Large_Forward_Open (Volume 1, chapter 3,
-- Forward_Open and Large_Forward_Open).
--
-- The rows in their order; the first that fits answers.
--     cut in the fixed part              CutInTheFixedPart (unread_row)
--     cut in the path                    CutInThePath (unread_row)
--     bytes after the path               BytesAfterThePath (unread_row)
--     path unreadable                    PathUnreadable (unread_row)
--     connection type not supported      Refuses ConnectionTypeNotSupported
--     RPI of zero                        Refuses RpiOfZero
--     triad in use                       Refuses TriadInUse
--     key mismatch                       Refuses (KeyMismatch part)
--   a port segment stands first (after the key):
--     no such port                       Refuses (NotSentOn NoSuchPort)
--     link address not legal             Refuses (NotSentOn LinkAddressNotLegal)
--     time-out ticks spent               Refuses (NotSentOn TicksSpent)
--     no pending left                    Refuses (NotSentOn NoPendingLeft)
--     no room or ids left                Refuses NoRoomToPassOn
--     forwarded                          Forwarded
--   no port segment stands first:
--     not an application path            Refuses (NotAccepted NotAnApplicationPath)
--     no such instance or configuration  Refuses (NotAccepted NoSuchInstanceOrConfiguration)
--     transport class not supported      Refuses (NotAccepted TransportClassNotSupported)
--     size mismatch                      Refuses (NotAccepted SizeMismatch)
--     output owned                       Refuses (NotAccepted OutputOwned)
--     no room or id left                 Refuses NoRoomToEndHere
--     accepted                           Accepted
use Rattle.std.specs.Prelude.{ℕ, ◌==◌, Bool, true, false, not, ◌&&◌, ◌||◌, nat_lt, nat_le, if◌then◌else◌, Option, Some, None, Ok, Err, length, is_some}
use Rattle.std.specs.FinMap as map
use Rattle.cip_base.specs.Words.{InstanceNumber, LinkAddress, Octets, PortIdentifier}
use Rattle.cip_open.specs.Kinds.{open_fixed_part}
use Rattle.cip_segment.specs.Reading.{HopAt, hop_of, segments_of}
use Rattle.cip_message.specs.declared.fault.DataFault.{DataFault}
use Rattle.cip_message.specs.declared.fault.DataFault.TheVariants.{Short, Long, Path}
use Rattle.cip_open.specs.Open.{Open}
use Rattle.cip_open.specs.Params.{open_params_of}
use Rattle.cip_open.specs.declared.parameters.Params.{Params}
use Rattle.cip_open.specs.declared.parameters.ConnectionKind.{ConnectionKind}
use Rattle.cip_open.specs.declared.parameters.ConnectionKind.TheVariants.{Null, Multicast, PointToPoint, Reserved}
use Rattle.cip_hops.specs.declared.opening.HopUp.{HopUp}
use Rattle.cip_hops.specs.declared.opening.HopDown.{HopDown}
use Rattle.cip_hops.specs.declared.opening.HopDown.TheVariants.{Link as DownLink, End}
use Rattle.cip_hops.specs.declared.opening.Opening.{Opening}
use Rattle.cip_hops.specs.Sides.{up_is_link}
use Rattle.cip_hops.specs.Hops.{Hops, refusal, first_hop}
use Rattle.cip_target.specs.declared.link.EndLink.{EndLink}
use Rattle.cip_target.specs.Ends.{EndRow, end_row, class_of}
use Rattle.cip_target.specs.declared.ends.EndRefusal.TheVariants.{NotAnApplicationPath}
use Rattle.cip_config.specs.declared.config.ModuleSettings.{ModuleSettings}
use Rattle.cip_routing.specs.declared.refusals.KeyPart.{KeyPart}
use Rattle.cip_routing.specs.declared.refusals.LinkRefusal.{LinkRefusal}
use Rattle.cip_routing.specs.declared.refusals.OpenRefusal.{OpenRefusal}
use Rattle.cip_routing.specs.declared.refusals.OpenRefusal.TheVariants.{CutInTheFixedPart, CutInThePath, BytesAfterThePath, PathUnreadable}
use Rattle.cip_routing.specs.declared.refusals.OpenRefusal.TheVariants.{ConnectionTypeNotSupported, RpiOfZero, TriadInUse, KeyMismatch, NotSentOn}
use Rattle.cip_routing.specs.declared.refusals.OpenRefusal.TheVariants.{NoRoomToPassOn, NotAccepted, NoRoomToEndHere}
use Rattle.cip_routing.specs.Links.{link_refusal}
use Rattle.cip_routing.specs.Keys.{leading_mismatch}
use Rattle.cip_routing.specs.State.{State}

pub data OpenRow : Type 0 where
  Refuses : (refusal : OpenRefusal) → OpenRow
  Forwarded : (port : PortIdentifier) → (address : LinkAddress) → (rest : Octets) → OpenRow
  Accepted : (link : EndLink) → OpenRow

-- ---- no port segment first: a connection that ends here

-- whether a connection writes this assembly
abbrev pub writes_to : InstanceNumber → HopDown → Bool
writes_to instance (DownLink port address) = false
writes_to instance (End config consume produce) = consume == instance

abbrev pub is_consumed : Hops → InstanceNumber → Bool
is_consumed h instance = is_some (first_hop (λ hop. writes_to instance hop.opening.down) h)

abbrev pub room_row : Hops → Open → EndLink → OpenRow
room_row h o link = if is_some (refusal h o.fields.triad 1) then Refuses NoRoomToEndHere
    else Accepted link

abbrev pub accepted_row : Hops → Open → EndRow → OpenRow
accepted_row h o (Err refusal) = Refuses (NotAccepted refusal)
accepted_row h o (Ok link) = room_row h o link

-- a command opens no connection to its own module
abbrev pub here_row : State → HopUp → Open → OpenRow
here_row s up o =
    if not (up_is_link up) then Refuses (NotAccepted NotAnApplicationPath)
    else accepted_row s.hops o (end_row s.assemblies (is_consumed s.hops) o)

-- ---- a port segment first: a connection that goes on

-- a device that routes draws two ids, an originator one
abbrev pub ids_if_forwarded : HopUp → ℕ
ids_if_forwarded up = if up_is_link up then 2 else 1

abbrev pub on_row : State → HopUp → Open → HopAt → Option LinkRefusal → OpenRow
on_row s up o hop (Some fault) = Refuses (NotSentOn fault)
on_row s up o hop None =
    if is_some (refusal s.hops o.fields.triad (ids_if_forwarded up)) then Refuses NoRoomToPassOn
    else Forwarded hop.port hop.address hop.rest

abbrev pub hop_row : ModuleSettings → State → HopUp → Open → Option HopAt → OpenRow
hop_row config s up o None = here_row s up o
hop_row config s up o (Some hop) = on_row s up o hop
    (link_refusal config s.pendings o.fields.timing hop.port hop.address)

-- ---- what every open has to be

abbrev pub key_row : ModuleSettings → State → HopUp → Open → Option KeyPart → OpenRow
key_row config s up o (Some part) = Refuses (KeyMismatch part)
key_row config s up o None = hop_row config s up o (hop_of o.path)

abbrev pub is_point_to_point : ConnectionKind → Bool
is_point_to_point Null = false
is_point_to_point Multicast = false
is_point_to_point PointToPoint = true
is_point_to_point Reserved = false

-- point to point, and no redundant owner
abbrev pub is_supported_direction : Params → Bool
is_supported_direction p = is_point_to_point p.kind && not p.redundant

abbrev pub is_supported : Open → Bool
is_supported o = is_supported_direction (open_params_of o.fields.large o.fields.ot_params)
    && (is_supported_direction (open_params_of o.fields.large o.fields.to_params)
    && nat_le o.fields.multiplier 7)

-- the row of an open that was read
unfoldable pub open_row : ModuleSettings → State → HopUp → Open → OpenRow
open_row config s up o =
    if not (is_supported o) then Refuses ConnectionTypeNotSupported
    else if o.fields.ot_rpi == 0 || o.fields.to_rpi == 0 then Refuses RpiOfZero
    else if is_some (map.get s.hops.held o.fields.triad) then Refuses TriadInUse
    else key_row config s up o (leading_mismatch config (segments_of o.path))

-- the row of data that cannot be read as an open, large or not
abbrev pub unread_row : Bool → Octets → DataFault → OpenRefusal
unread_row large d Short =
    if nat_lt (length d) (open_fixed_part large) then CutInTheFixedPart else CutInThePath
unread_row large d Long = BytesAfterThePath
unread_row large d (Path fault) = PathUnreadable

-- ---- what is opened

abbrev pub opening_with : HopUp → HopDown → Open → Opening
opening_with up down o = record {
  triad = o.fields.triad;
  up = up;
  down = down;
  path = o.path;
  ot_size = (open_params_of o.fields.large o.fields.ot_params).size;
  to_size = (open_params_of o.fields.large o.fields.to_params).size;
  ot_rpi = o.fields.ot_rpi;
  to_rpi = o.fields.to_rpi;
  multiplier = o.fields.multiplier;
  class = class_of o.fields.transport;
  large = o.fields.large;
}

abbrev pub end_down : EndLink → HopDown
end_down link = End link.config link.consume link.produce
