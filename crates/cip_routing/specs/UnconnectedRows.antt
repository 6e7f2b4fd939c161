-- The unconnected send group: which row answers an Unconnected_Send (Volume 1, chapter 3,
-- Unconnected_Send).
--
-- The rows in their order; the first that fits answers.
--     cut before the route size     CutBeforeTheRouteSize (unread_row)
--     cut in the route              CutInTheRoute (unread_row)
--     bytes after the route         BytesAfterTheRoute (unread_row)
--     route unreadable              RouteUnreadable (unread_row)
--     embedded request not allowed  Refuses EmbeddedRequestNotAllowed
--     answered here                 AnsweredHere
--     key mismatch                  Refuses (KeyMismatch part)
--     no port segment               Refuses NoPortSegment
--     no such port                  Refuses (NotSentOn NoSuchPort)
--     link address not legal        Refuses (NotSentOn LinkAddressNotLegal)
--     time-out ticks spent          Refuses (NotSentOn TicksSpent)
--     no pending left               Refuses (NotSentOn NoPendingLeft)
--     forwarded                     Forwarded
use Rattle.std.specs.Prelude.{ℕ, ◌==◌, if◌then◌else◌, Option, Some, None, Result, Ok, Err, length}
use Rattle.cip_base.specs.Words.{LinkAddress, Octets, PortIdentifier}
use Rattle.cip_segment.specs.Reading.{HopAt, hop_of, segments_of}
use Rattle.cip_message.specs.Request.{Request}
use Rattle.cip_message.specs.RequestAt.{request_at}
use Rattle.cip_message.specs.declared.fault.RequestFault.{RequestFault}
use Rattle.cip_unconnected.specs.Unconnected.{Unconnected}
use Rattle.cip_unconnected.specs.UnconnectedAt.{route_words_of}
use Rattle.cip_unconnected.specs.declared.fault.UnconnectedFault.{UnconnectedFault}
use Rattle.cip_unconnected.specs.declared.fault.UnconnectedFault.TheVariants.{Short, Long, Route}
use Rattle.cip_pending.specs.Pendings.{Pendings}
use Rattle.cip_config.specs.declared.config.ModuleSettings.{ModuleSettings}
use Rattle.cip_routing.specs.declared.refusals.KeyPart.{KeyPart}
use Rattle.cip_routing.specs.declared.refusals.LinkRefusal.{LinkRefusal}
use Rattle.cip_routing.specs.declared.refusals.UnconnectedRefusal.{UnconnectedRefusal}
use Rattle.cip_routing.specs.declared.refusals.UnconnectedRefusal.TheVariants.{CutBeforeTheRouteSize, CutInTheRoute, BytesAfterTheRoute, RouteUnreadable}
use Rattle.cip_routing.specs.declared.refusals.UnconnectedRefusal.TheVariants.{EmbeddedRequestNotAllowed, KeyMismatch, NoPortSegment, NotSentOn}
use Rattle.cip_routing.specs.Links.{link_refusal}
use Rattle.cip_routing.specs.Keys.{leading_mismatch}
use Rattle.cip_routing.specs.Object.{begins_with_manager}

pub data UnconnectedRow : Type 0 where
  Refuses : (refusal : UnconnectedRefusal) → UnconnectedRow
  AnsweredHere : (request : Request) → UnconnectedRow
  Forwarded : (port : PortIdentifier) → (address : LinkAddress) → (rest : Octets) → UnconnectedRow

-- by the link that the first port segment names
abbrev pub link_row : HopAt → Option LinkRefusal → UnconnectedRow
link_row hop (Some refusal) = Refuses (NotSentOn refusal)
link_row hop None = Forwarded hop.port hop.address hop.rest

abbrev pub hop_row : ModuleSettings → Pendings → Unconnected → Option HopAt → UnconnectedRow
hop_row config p u None = Refuses NoPortSegment
hop_row config p u (Some hop) = link_row hop (link_refusal config p u.timing hop.port hop.address)

abbrev pub key_row : ModuleSettings → Pendings → Unconnected → Option KeyPart → UnconnectedRow
key_row config p u (Some part) = Refuses (KeyMismatch part)
key_row config p u None = hop_row config p u (hop_of u.route)

-- with no route left the module answers; else the key that the route begins with is looked at, and
-- then the hop
abbrev pub route_row : ModuleSettings → Pendings → Unconnected → Request → UnconnectedRow
route_row config p u embedded =
    if length u.route == 0 then AnsweredHere embedded
    else key_row config p u (leading_mismatch config (segments_of u.route))

abbrev pub embedded_row : ModuleSettings → Pendings → Unconnected → Result Request RequestFault
    → UnconnectedRow
embedded_row config p u (Err fault) = Refuses EmbeddedRequestNotAllowed
embedded_row config p u (Ok embedded) =
    if begins_with_manager (segments_of embedded.path) then Refuses EmbeddedRequestNotAllowed
    else route_row config p u embedded

-- the row of an Unconnected_Send that was read
unfoldable pub unconnected_row : ModuleSettings → Pendings → Unconnected → UnconnectedRow
unconnected_row config p u = embedded_row config p u (request_at u.request)

-- cut before or behind the byte that counts the route
abbrev pub cut_row : Option ℕ → UnconnectedRefusal
cut_row None = CutBeforeTheRouteSize
cut_row (Some words) = CutInTheRoute

-- the row of data that cannot be read as an Unconnected_Send
abbrev pub unread_row : Octets → UnconnectedFault → UnconnectedRefusal
unread_row d Short = cut_row (route_words_of d)
unread_row d Long = BytesAfterTheRoute
unread_row d (Route fault) = RouteUnreadable
