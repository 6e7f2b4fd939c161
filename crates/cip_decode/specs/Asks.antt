-- What a request asks the Connection Manager for.
use Rattle.std.specs.Prelude.{ℕ, Bool, false, ◌==◌, ◌&&◌, is_none, if◌then◌else◌}
use Rattle.std.specs.Prelude.{Option, Some, None}
use Rattle.cip_base.specs.Words.{Octets}
use Rattle.cip_segment.specs.Reading.{segments_of}
use Rattle.cip_target.specs.declared.object.ObjectPath.{ObjectPath}
use Rattle.cip_target.specs.Object.{object_of}
use Rattle.cip_decode.specs.declared.request.Asked.{Asked}
use Rattle.cip_decode.specs.declared.request.Asked.TheVariants.{UnconnectedSend, ForwardOpen}
use Rattle.cip_decode.specs.declared.request.Asked.TheVariants.{LargeForwardOpen, ForwardClose}
use Rattle.cip_decode.specs.declared.request.Asked.TheVariants.{Other}

-- class 6, instance 1 and no attribute
abbrev pub is_manager : Option ObjectPath → Bool
is_manager None = false
is_manager (Some o) = (o.class_ == 6) && (o.instance == 1) && is_none o.attribute

-- what a service of the Connection Manager asks for
abbrev pub asked_by : ℕ → Asked
asked_by service =
    if service == 0x52 then UnconnectedSend
    else if service == 0x54 then ForwardOpen
    else if service == 0x5B then LargeForwardOpen
    else if service == 0x4E then ForwardClose
    else Other

-- by the service and the path of a request
abbrev pub asked_at : ℕ → Octets → Asked
asked_at service path =
    if is_manager (object_of (segments_of path)) then asked_by service else Other
