-- No status of a failure has general status 0, which is that of a success.
use Rattle.std.proofs.Common.{◌≡◌, arith}
use Rattle.cip_target.specs.declared.ends.EndRefusal.{EndRefusal}
use Rattle.cip_target.specs.declared.ends.EndRefusal.TheVariants as ends
use Rattle.cip_target.specs.Ends.{end_status}
use Rattle.cip_routing.specs.declared.refusals.RequestRefusal.{RequestRefusal}
use Rattle.cip_routing.specs.declared.refusals.RequestRefusal.TheVariants as request
use Rattle.cip_routing.specs.declared.refusals.UnconnectedRefusal.{UnconnectedRefusal}
use Rattle.cip_routing.specs.declared.refusals.UnconnectedRefusal.TheVariants as unconnected
use Rattle.cip_routing.specs.declared.refusals.OpenRefusal.{OpenRefusal}
use Rattle.cip_routing.specs.declared.refusals.OpenRefusal.TheVariants as opens
use Rattle.cip_routing.specs.declared.refusals.CloseRefusal.{CloseRefusal}
use Rattle.cip_routing.specs.declared.refusals.CloseRefusal.TheVariants as closes
use Rattle.cip_routing.specs.declared.refusals.LinkRefusal.{LinkRefusal}
use Rattle.cip_routing.specs.declared.refusals.LinkRefusal.TheVariants.{NoSuchPort, LinkAddressNotLegal, TicksSpent, NoPendingLeft}
use Rattle.cip_routing.specs.declared.refusals.KeyPart.{KeyPart}
use Rattle.cip_routing.specs.declared.refusals.KeyPart.TheVariants.{VendorOrProduct, DeviceType, Revision}
use Rattle.cip_routing.specs.Statuses.{key_status, link_status, request_status, unconnected_status, open_status, close_status}

key_fails : (part : KeyPart) → (key_status part).general ≡ 0 → ⊥
key_fails VendorOrProduct e = omega (arith, e)
key_fails DeviceType e = omega (arith, e)
key_fails Revision e = omega (arith, e)

pub link_fails : (refusal : LinkRefusal) → (link_status refusal).general ≡ 0 → ⊥
link_fails NoSuchPort e = omega (arith, e)
link_fails LinkAddressNotLegal e = omega (arith, e)
link_fails TicksSpent e = omega (arith, e)
link_fails NoPendingLeft e = omega (arith, e)

pub end_fails : (refusal : EndRefusal) → (end_status refusal).general ≡ 0 → ⊥
end_fails ends.NotAnApplicationPath e = omega (arith, e)
end_fails ends.NoSuchInstanceOrConfiguration e = omega (arith, e)
end_fails ends.TransportClassNotSupported e = omega (arith, e)
end_fails ends.SizeMismatch e = omega (arith, e)
end_fails ends.OutputOwned e = omega (arith, e)

pub request_fails : (refusal : RequestRefusal) → (request_status refusal).general ≡ 0 → ⊥
request_fails request.PathPastTheEnd e = omega (arith, e)
request_fails request.PathUnreadable e = omega (arith, e)
request_fails request.PathFormNotSupported e = omega (arith, e)
request_fails request.NoSuchManagerInstance e = omega (arith, e)
request_fails request.ServiceNotSupported e = omega (arith, e)

pub unconnected_fails : (refusal : UnconnectedRefusal) → (unconnected_status refusal).general ≡ 0 → ⊥
unconnected_fails (unconnected.KeyMismatch part) e = key_fails part e
unconnected_fails (unconnected.NotSentOn refusal) e = link_fails refusal e
unconnected_fails refusal e = omega (arith, e)

pub open_fails : (refusal : OpenRefusal) → (open_status refusal).general ≡ 0 → ⊥
open_fails (opens.KeyMismatch part) e = key_fails part e
open_fails (opens.NotSentOn refusal) e = link_fails refusal e
open_fails (opens.NotAccepted refusal) e = end_fails refusal e
open_fails refusal e = omega (arith, e)

pub close_fails : (refusal : CloseRefusal) → (close_status refusal).general ≡ 0 → ⊥
close_fails (closes.NotSentOn refusal) e = link_fails refusal e
close_fails refusal e = omega (arith, e)
