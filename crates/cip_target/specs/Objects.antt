-- What a target is: the fields of its identity, and its assemblies; and what it answers.
use Rattle.std.specs.Prelude.{◌≡◌, ◌≤◌, ℕ, Bool, IsSomeAnd, length}
use Rattle.cip_base.specs.Words.{Octets}
use Rattle.cip_segment.specs.Reading.{segments_of}
use Rattle.cip_message.specs.Request.{Request}
use Rattle.cip_message.specs.Reply.{Reply, reply_bytes}
use Rattle.cip_target.specs.declared.object.ObjectPath.{ObjectPath}
use Rattle.cip_target.specs.declared.identity.IdentityFields.{IdentityFields}
use Rattle.cip_target.specs.Object.{object_of}
use Rattle.cip_target.specs.Assemblies.{AssemblyMap}
use Rattle.cip_target.specs.Rows.{TargetRow, object_row, target_row, is_reset, answer_of, assemblies_after}

pub record Objects : Type 0 where
  pub identity : IdentityFields
  pub assemblies : AssemblyMap

-- the row of the object that a path names
abbrev pub row_of_object : Objects → ObjectPath → ℕ → Octets → TargetRow
row_of_object t o service d = object_row t.identity t.assemblies o service d

-- the row of a request
abbrev pub row_of : Objects → Request → TargetRow
row_of t r = target_row t.identity t.assemblies r

-- an Identity Reset that no row refuses
abbrev pub reads_reset : Objects → Request → Bool
reads_reset t r = is_reset (row_of t r)

-- service Reset, 05, for class 1, instance 1, with no data or one byte
pub record IsReset (r : Request) : Type 0 where
  pub service : r.service ≡ 0x05
  pub object : IsSomeAnd (object_of (segments_of r.path)) (λ o. (o.class_ ≡ 1) × (o.instance ≡ 1))
  pub data_ : length r.data_ ≤ 1

-- the reply to a request
abbrev pub target_answer : Objects → Request → Reply
target_answer t r = answer_of r.service (row_of t r)

-- its bytes
abbrev pub answer_bytes : Objects → Request → Octets
answer_bytes t r = reply_bytes (target_answer t r)

-- the target after a request
abbrev pub target_after : Objects → Request → Objects
target_after t r = record {
  identity = t.identity;
  assemblies = assemblies_after t.assemblies (row_of t r);
}
