-- Which status each row of the routing table answers (Volume 1, Appendix B; the additional status
-- is the Connection Manager's, chapter 3).
use Rattle.std.specs.Prelude.{ℕ, Some, None}
use Rattle.cip_base.specs.declared.timing.Status.{Status}
use Rattle.cip_target.specs.Ends.{end_status}
use Rattle.cip_routing.specs.declared.refusals.RequestRefusal.{RequestRefusal}
use Rattle.cip_routing.specs.declared.refusals.RequestRefusal.TheVariants as request
use Rattle.cip_routing.specs.declared.refusals.LinkRefusal.{LinkRefusal}
use Rattle.cip_routing.specs.declared.refusals.LinkRefusal.TheVariants.{NoSuchPort, LinkAddressNotLegal, TicksSpent, NoPendingLeft}
use Rattle.cip_routing.specs.declared.refusals.UnconnectedRefusal.{UnconnectedRefusal}
use Rattle.cip_routing.specs.declared.refusals.UnconnectedRefusal.TheVariants as unconnected
use Rattle.cip_routing.specs.declared.refusals.OpenRefusal.{OpenRefusal}
use Rattle.cip_routing.specs.declared.refusals.OpenRefusal.TheVariants as opens
use Rattle.cip_routing.specs.declared.refusals.CloseRefusal.{CloseRefusal}
use Rattle.cip_routing.specs.declared.refusals.CloseRefusal.TheVariants as closes
use Rattle.cip_routing.specs.declared.refusals.KeyPart.{KeyPart}
use Rattle.cip_routing.specs.declared.refusals.KeyPart.TheVariants.{VendorOrProduct, DeviceType, Revision}

-- a general status alone
abbrev pub plain : ℕ → Status
plain g = record { general = g; extra = None }

-- general status 01 with a word of additional status
abbrev pub extended : ℕ → Status
extended x = record { general = 1; extra = Some x }

abbrev pub key_status : KeyPart → Status
key_status VendorOrProduct = extended 0x0114
key_status DeviceType = extended 0x0115
key_status Revision = extended 0x0116

abbrev pub link_status : LinkRefusal → Status
link_status NoSuchPort = extended 0x0311
link_status LinkAddressNotLegal = extended 0x0312
link_status TicksSpent = extended 0x0204
link_status NoPendingLeft = extended 0x0301

abbrev pub request_status : RequestRefusal → Status
request_status request.PathPastTheEnd = plain 0x26
request_status request.PathUnreadable = plain 0x04
request_status request.PathFormNotSupported = plain 0x05
request_status request.NoSuchManagerInstance = plain 0x16
request_status request.ServiceNotSupported = plain 0x08

abbrev pub unconnected_status : UnconnectedRefusal → Status
unconnected_status unconnected.CutBeforeTheRouteSize = plain 0x13
unconnected_status unconnected.CutInTheRoute = plain 0x13
unconnected_status unconnected.BytesAfterTheRoute = plain 0x15
unconnected_status unconnected.RouteUnreadable = plain 0x04
unconnected_status unconnected.EmbeddedRequestNotAllowed = extended 0x0205
unconnected_status (unconnected.KeyMismatch part) = key_status part
unconnected_status unconnected.NoPortSegment = extended 0x0315
unconnected_status (unconnected.NotSentOn refusal) = link_status refusal

abbrev pub open_status : OpenRefusal → Status
open_status opens.CutInTheFixedPart = plain 0x13
open_status opens.CutInThePath = plain 0x13
open_status opens.BytesAfterThePath = plain 0x15
open_status opens.PathUnreadable = plain 0x04
open_status opens.ConnectionTypeNotSupported = extended 0x0108
open_status opens.RpiOfZero = extended 0x0111
open_status opens.TriadInUse = extended 0x0100
open_status (opens.KeyMismatch part) = key_status part
open_status (opens.NotSentOn refusal) = link_status refusal
open_status opens.NoRoomToPassOn = extended 0x0113
open_status (opens.NotAccepted refusal) = end_status refusal
open_status opens.NoRoomToEndHere = extended 0x0113

abbrev pub close_status : CloseRefusal → Status
close_status closes.CutInTheFixedPart = plain 0x13
close_status closes.CutInThePath = plain 0x13
close_status closes.BytesAfterThePath = plain 0x15
close_status closes.PathUnreadable = plain 0x04
close_status closes.NotThisSendersOpenTriad = extended 0x0107
close_status closes.PathDiffersFromTheHops = extended 0x0316
close_status (closes.NotSentOn refusal) = link_status refusal
