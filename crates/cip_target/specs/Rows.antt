-- What the target answers: the first row that fits (Volume 1, chapter 5, Identity and Assembly
-- objects; Appendix B, general status).
use Rattle.std.specs.Prelude.{ℕ, Bool, true, false, ◌+◌, ◌==◌, nat_lt, if◌then◌else◌, [], length, Option, Some, None}
use Rattle.std.specs.FinMap as map
use Rattle.cip_base.specs.Words.{Octets, InstanceNumber}
use Rattle.cip_segment.specs.Reading.{segments_of}
use Rattle.cip_message.specs.Request.{Request}
use Rattle.cip_message.specs.Reply.{Reply}
use Rattle.cip_target.specs.declared.identity.IdentityFields.{IdentityFields}
use Rattle.cip_target.specs.declared.object.ObjectPath.{ObjectPath}
use Rattle.cip_target.specs.declared.rows.TargetRefusal.{TargetRefusal}
use Rattle.cip_target.specs.declared.rows.TargetRefusal.TheVariants.{PathFormNotSupported, ClassNotSupported, NoSuchInstance, ServiceNotSupported}
use Rattle.cip_target.specs.declared.rows.TargetRefusal.TheVariants.{NoSuchAttribute, NotSettable, DataShort, DataLong}
use Rattle.cip_target.specs.Identity.{identity_bytes, attribute_of}
use Rattle.cip_target.specs.Object.{object_of}
use Rattle.cip_target.specs.Assemblies.{AssemblyMap}

-- a row that refuses, one that reads these bytes, one that writes these bytes to this instance, or
-- one that asks the whole device to reset
pub data TargetRow : Type 0 where
  Refused : TargetRefusal → TargetRow
  Read : Octets → TargetRow
  Written : InstanceNumber → Octets → TargetRow
  Reset : TargetRow

-- reading takes no data
abbrev pub read_row : Octets → Octets → TargetRow
read_row found d = if length d == 0 then Read found else Refused DataLong

-- reading an attribute, if there is one
abbrev pub get_row : Option Octets → Octets → TargetRow
get_row None d = Refused NoSuchAttribute
get_row (Some found) d = read_row found d

-- a reset takes no data, or one byte, the type of reset
abbrev pub reset_row : Octets → TargetRow
reset_row d = if nat_lt 1 (length d) then Refused DataLong else Reset

-- no attribute of the Identity can be set
abbrev pub set_identity_row : Option Octets → TargetRow
set_identity_row None = Refused NoSuchAttribute
set_identity_row (Some found) = Refused NotSettable

-- an assembly is set whole
abbrev pub set_assembly_row : InstanceNumber → Option Octets → Octets → TargetRow
set_assembly_row i None d = Refused NoSuchAttribute
set_assembly_row i (Some held) d =
    if nat_lt (length d) (length held) then Refused DataShort
    else if nat_lt (length held) (length d) then Refused DataLong
    else Written i d

-- the attribute of the Identity that a path names
abbrev pub identity_attribute : IdentityFields → Option ℕ → Option Octets
identity_attribute f None = None
identity_attribute f (Some a) = attribute_of f a

-- the attribute of an assembly that a path names: 3 is its data
abbrev pub assembly_attribute : Octets → Option ℕ → Option Octets
assembly_attribute held None = None
assembly_attribute held (Some a) = if a == 3 then Some held else None

-- the Identity's services: Get_Attributes_All, Reset, Get_Attribute_Single, Set_Attribute_Single
abbrev pub identity_row : IdentityFields → ℕ → Option ℕ → Octets → TargetRow
identity_row f service a d =
    if service == 0x01 then read_row (identity_bytes f) d
    else if service == 0x05 then reset_row d
    else if service == 0x0E then get_row (identity_attribute f a) d
    else if service == 0x10 then set_identity_row (identity_attribute f a)
    else Refused ServiceNotSupported

-- an assembly's services: Get_Attribute_Single, Set_Attribute_Single
abbrev pub assembly_row : InstanceNumber → Option Octets → ℕ → Option ℕ → Octets → TargetRow
assembly_row i None service a d = Refused NoSuchInstance
assembly_row i (Some held) service a d =
    if service == 0x0E then get_row (assembly_attribute held a) d
    else if service == 0x10 then set_assembly_row i (assembly_attribute held a) d
    else Refused ServiceNotSupported

-- the Identity has instance 1 alone
abbrev pub object_row : IdentityFields → AssemblyMap → ObjectPath → ℕ → Octets → TargetRow
object_row f m o service d =
    if o.class_ == 1 then (
    if o.instance == 1 then identity_row f service o.attribute d else Refused NoSuchInstance
    )
    else if o.class_ == 4 then assembly_row o.instance (map.get m o.instance) service o.attribute d
    else Refused ClassNotSupported

abbrev pub path_row : IdentityFields → AssemblyMap → Option ObjectPath → ℕ → Octets → TargetRow
path_row f m None service d = Refused PathFormNotSupported
path_row f m (Some o) service d = object_row f m o service d

-- the row of a request
unfoldable pub target_row : IdentityFields → AssemblyMap → Request → TargetRow
target_row f m r = path_row f m (object_of (segments_of r.path)) r.service r.data_

-- a row that asks the whole device to reset
abbrev pub is_reset : TargetRow → Bool
is_reset (Refused refusal) = false
is_reset (Read found) = false
is_reset (Written i d) = false
is_reset Reset = true

-- the general status of a row that refuses
abbrev pub refusal_status : TargetRefusal → ℕ
refusal_status PathFormNotSupported = 0x05
refusal_status ClassNotSupported = 0x05
refusal_status NoSuchInstance = 0x16
refusal_status ServiceNotSupported = 0x08
refusal_status NoSuchAttribute = 0x14
refusal_status NotSettable = 0x0E
refusal_status DataShort = 0x13
refusal_status DataLong = 0x15

-- the general status of a row
abbrev pub status_of : TargetRow → ℕ
status_of (Refused refusal) = refusal_status refusal
status_of (Read found) = 0
status_of (Written i d) = 0
status_of Reset = 0

abbrev pub data_of : TargetRow → Octets
data_of (Refused refusal) = []
data_of (Read found) = found
data_of (Written i d) = []
data_of Reset = []

-- a service with bit 7 set
abbrev pub reply_service : ℕ → ℕ
reply_service s = if nat_lt s 128 then 128 + s else s

-- a reply without additional status
abbrev pub plain_reply : ℕ → ℕ → Octets → Reply
plain_reply service general d = record {
  service = reply_service service;
  general = general;
  extra = [];
  data_ = d;
}

-- the reply of a row
abbrev pub answer_of : ℕ → TargetRow → Reply
answer_of service row = plain_reply service (status_of row) (data_of row)

-- the assemblies after a row is answered; a reset is carried out apart from its answer
abbrev pub assemblies_after : AssemblyMap → TargetRow → AssemblyMap
assemblies_after m (Refused refusal) = m
assemblies_after m (Read found) = m
assemblies_after m (Written i d) = map.insert m i d
assemblies_after m Reset = m
