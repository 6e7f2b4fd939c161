-- Which attributes of Identity and Assembly a request asks for or sets (Volume 1, chapter 5).
use Rattle.std.specs.Prelude.{ℕ, ◌==◌, ◌&&◌, nat_le, if◌then◌else◌}
use Rattle.std.specs.Prelude.{Option, Some, None, Result, Ok, Err}
use Rattle.cip_base.specs.Words.{Octets}
use Rattle.cip_segment.specs.Reading.{segments_of}
use Rattle.cip_message.specs.Request.{Request as Asking}
use Rattle.cip_message.specs.RequestAt.{request_at}
use Rattle.cip_message.specs.declared.request.RequestView.{RequestView}
use Rattle.cip_target.specs.declared.object.ObjectPath.{ObjectPath}
use Rattle.cip_target.specs.Object.{object_of}
use Rattle.cip_decode.specs.declared.request.Meaning.{Meaning}
use Rattle.cip_decode.specs.declared.request.Meaning.TheVariants.{Unconnected, Data}
use Rattle.cip_decode.specs.declared.request.Request.{Request}
use Rattle.cip_decode.specs.declared.attributes.Attributes.{Attributes}
use Rattle.cip_decode.specs.declared.attributes.Attributes.TheVariants.{Identity, OfIdentity, Assembly}

-- one attribute: 1 to 7 of the Identity, class 1 and instance 1, or 3 of an assembly, class 4
abbrev pub got_of : ObjectPath → ℕ → Option Attributes
got_of o a =
    if (o.class_ == 1) && (o.instance == 1) && nat_le 1 a && nat_le a 7 then Some (OfIdentity a)
    else if (o.class_ == 4) && (a == 3) then Some (Assembly o.instance)
    else None

-- Get_Attributes_All of the Identity
abbrev pub all_of : ObjectPath → Option Attributes
all_of o = if (o.class_ == 1) && (o.instance == 1) then Some Identity else None

-- by the attribute that the path names, if it names one
abbrev pub got_with : ℕ → ObjectPath → Option ℕ → Option Attributes
got_with service o None = if service == 0x01 then all_of o else None
got_with service o (Some a) = if service == 0x0E then got_of o a else None

abbrev pub got_by : ℕ → ObjectPath → Option Attributes
got_by service o = got_with service o o.attribute

abbrev pub if_object : ℕ → Option ObjectPath → Option Attributes
if_object service None = None
if_object service (Some o) = got_by service o

-- by the service and the path of a request
abbrev pub got_at : ℕ → Octets → Option Attributes
got_at service path = if_object service (object_of (segments_of path))

abbrev pub got_in : RequestView → Option Attributes
got_in view = got_at view.service view.path.bytes.now

abbrev pub got_of_request : {E : Type 0} → Result Asking E → Option Attributes
got_of_request (Ok r) = got_at r.service r.path
got_of_request (Err fault) = None

-- by the request that bytes are
abbrev pub carried : Octets → Option Attributes
carried b = got_of_request (request_at b)

-- by what the data of a request means: of an Unconnected_Send the request in it asks
abbrev pub asked_by_meaning : RequestView → Meaning → Option Attributes
asked_by_meaning view Data = got_in view
asked_by_meaning view (Unconnected sent) = carried sent.request.now
asked_by_meaning view other = None

abbrev pub asked_attributes : Request → Option Attributes
asked_attributes r = asked_by_meaning r.view r.meaning

abbrev pub is_third : Option ℕ → Option ℕ → Option ℕ
is_third instance None = None
is_third instance (Some a) = if a == 3 then instance else None

-- Set_Attribute_Single of attribute 3 of an assembly
abbrev pub set_by : ℕ → ObjectPath → Option ℕ
set_by service o =
    if (service == 0x10) && (o.class_ == 4) then is_third (Some o.instance) o.attribute else None

abbrev pub set_of_object : ℕ → Option ObjectPath → Option ℕ
set_of_object service None = None
set_of_object service (Some o) = set_by service o

abbrev pub set_by_meaning : RequestView → Meaning → Option ℕ
set_by_meaning view Data = set_of_object view.service (object_of (segments_of view.path.bytes.now))
set_by_meaning view other = None

-- the instance of the assembly whose data a request sets to its own
abbrev pub set_instance : Request → Option ℕ
set_instance r = set_by_meaning r.view r.meaning
