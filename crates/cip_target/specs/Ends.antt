-- What an end says to an open: the rows from an application path on, in their order; the first that
-- fits answers (Volume 1, chapter 3, Forward_Open). And what the target is while connections end
-- here.
use Rattle.std.specs.Prelude.{◌≡◌, ℕ, Bool, not, ◌+◌, ◌%◌, ◌==◌, ◌&&◌, ◌||◌, nat_lt, if◌then◌else◌, List, [], length, slice_index, is_some, Option, Some, None}
use Rattle.std.specs.Prelude.{Result, Ok, Err}
use Rattle.std.specs.Option.{option_map_or}
use Rattle.std.specs.FinMap as map
use Rattle.cip_base.specs.Words.{Octets, InstanceNumber}
use Rattle.cip_base.specs.declared.timing.Status.{Status}
use Rattle.cip_segment.specs.Reading.{segments_of}
use Rattle.cip_message.specs.Request.{Request}
use Rattle.cip_open.specs.declared.request.OpenFields.{OpenFields}
use Rattle.cip_open.specs.Open.{Open}
use Rattle.cip_open.specs.Params.{open_params_of}
use Rattle.cip_target.specs.declared.ends.EndRefusal.{EndRefusal}
use Rattle.cip_target.specs.declared.ends.EndRefusal.TheVariants.{NotAnApplicationPath, NoSuchInstanceOrConfiguration, TransportClassNotSupported, SizeMismatch}
use Rattle.cip_target.specs.declared.ends.EndRefusal.TheVariants.{OutputOwned}
use Rattle.cip_target.specs.declared.config.AssemblyConfig.{AssemblyConfig}
use Rattle.cip_target.specs.declared.identity.IdentityFields.{IdentityFields}
use Rattle.cip_target.specs.declared.link.EndLink.{EndLink}
use Rattle.cip_target.specs.ApplicationPath.{Application, application_of}
use Rattle.cip_target.specs.Assemblies.{AssemblyMap, Owners, zeroed, configs_in, size_in, written_over, owned_with}
use Rattle.cip_target.specs.Held.{Holdings, unowned}
use Rattle.cip_target.specs.Objects.{Objects, target_after}

-- the link that an open fits, or why it is refused
abbrev pub EndRow : Type 0
EndRow = Result EndLink EndRefusal

-- the transport class: the low four bits
abbrev pub class_of : ℕ → ℕ
class_of transport = transport % 16

-- as many bytes as the assembly has, or one more, a pad 00, where that is odd
abbrev pub is_configuration : ℕ → Octets → Bool
is_configuration size b =
    length b == size || (size % 2 == 1 && (length b == size + 1 && slice_index b size == 0))

-- the size of a connection's datum: with a sequence count of two bytes in class 1
abbrev pub datum_size : ℕ → ℕ → ℕ
datum_size class size = if class == 1 then size + 2 else size

-- both directions have the sizes of their assemblies
abbrev pub are_sizes : OpenFields → ℕ → ℕ → Bool
are_sizes f consume produce =
    (open_params_of f.large f.ot_params).size == datum_size (class_of f.transport) consume
    && (open_params_of f.large f.to_params).size == datum_size (class_of f.transport) produce

abbrev pub link_of : OpenFields → Application → EndLink
link_of f a = record {
  config = a.config;
  consume = a.consume;
  produce = a.produce;
  class = class_of f.transport;
}

-- with the sizes of the three assemblies, each where it exists
abbrev pub sized_row : (InstanceNumber → Bool) → OpenFields → Application
    → Option ℕ → Option ℕ → Option ℕ → EndRow
sized_row owned f a (Some config) (Some consume) (Some produce) =
    if not (is_configuration config a.bytes) then Err NoSuchInstanceOrConfiguration
    else if nat_lt 1 (class_of f.transport) then Err TransportClassNotSupported
    else if not (are_sizes f consume produce) then Err SizeMismatch
    else if nat_lt 0 consume && owned a.consume then Err OutputOwned
    else Ok (link_of f a)
sized_row owned f a config consume produce = Err NoSuchInstanceOrConfiguration

abbrev pub application_row : AssemblyMap → (InstanceNumber → Bool) → OpenFields
    → Option Application → EndRow
application_row m owned f None = Err NotAnApplicationPath
application_row m owned f (Some a) =
    sized_row owned f a (size_in m a.config) (size_in m a.consume) (size_in m a.produce)

-- the row of an open, where these instances are owned as outputs
unfoldable pub end_row : AssemblyMap → (InstanceNumber → Bool) → Open → EndRow
end_row m owned o = application_row m owned o.fields (application_of (segments_of o.path))

-- an open that fits has an application path, whose points are the instances of the link
pub record HasPoints (o : Open) (link : EndLink) : Type 0 where
  pub application : Application
  pub path_is : application_of (segments_of o.path) ≡ Some application
  pub link_is : link ≡ link_of o.fields application

-- general status 01, connection failure, with a word of additional status
abbrev pub refused_with : ℕ → Status
refused_with extra = record { general = 0x01; extra = Some extra }

-- the status of a row that refuses
abbrev pub end_status : EndRefusal → Status
end_status NotAnApplicationPath = refused_with 0x0315
end_status NoSuchInstanceOrConfiguration = refused_with 0x0117
end_status TransportClassNotSupported = refused_with 0x0103
end_status SizeMismatch = refused_with 0x0109
end_status OutputOwned = refused_with 0x0106

-- the link, or the status of the row that refuses
abbrev pub end_gives : EndRow → Result EndLink Status
end_gives (Ok link) = Ok link
end_gives (Err refusal) = Err (end_status refusal)

-- ---- the target while connections end here

pub record Ends : Type 0 where
  pub objects : Objects
  pub owners : Owners

abbrev pub with_assemblies : Objects → AssemblyMap → Objects
with_assemblies t m = record { identity = t.identity; assemblies = m }

-- with this identity, and the assemblies and owners that are held
abbrev pub ends_with : IdentityFields → Holdings → Ends
ends_with identity h = record {
  objects = record { identity = identity; assemblies = h.bytes };
  owners = h.owners;
}

-- as a target begins
abbrev pub fresh : IdentityFields → List AssemblyConfig → Ends
fresh identity configs = ends_with identity (unowned (zeroed configs))

-- after a request
abbrev pub ends_after : Ends → Request → Ends
ends_after t r = record { objects = target_after t.objects r; owners = t.owners }

-- the same where the request was answered
abbrev pub ends_if : Bool → Ends → Request → Ends
ends_if answered t r = if answered then ends_after t r else t

-- the row of an open at this target
abbrev pub row_at : Ends → Open → EndRow
row_at t o = end_row t.objects.assemblies (λ i. is_some (map.get t.owners i)) o

-- the configuration bytes that come with an open
abbrev pub configuration_of : Open → Octets
configuration_of o = option_map_or (λ a. a.bytes) (application_of (segments_of o.path)) []

-- after the configuration bytes are written, without their pad
abbrev pub configured : AssemblyMap → Open → EndLink → AssemblyMap
configured m o link = written_over m link.config (configuration_of o) (map.get m link.config)

-- after the open is taken on this link
abbrev pub accepted : Ends → EndLink → Open → Ends
accepted t link o =
    let m = t.objects.assemblies in record {
      objects = with_assemblies t.objects (configured m o link);
      owners = owned_with t.owners link.consume o.fields.triad (size_in m link.consume);
    }

-- after a datum is written to an assembly
abbrev pub consumed : Ends → InstanceNumber → Octets → Ends
consumed t i d = record {
  objects = with_assemblies t.objects (map.insert t.objects.assemblies i d);
  owners = t.owners;
}

-- after an instance is given back
abbrev pub released : Ends → InstanceNumber → Ends
released t i = record { objects = t.objects; owners = map.remove t.owners i }

-- after a reset: as a target begins that has the same identity, and assemblies of the same sizes
abbrev pub reset : Ends → Ends
reset t = fresh t.objects.identity (configs_in t.objects.assemblies)

-- the target has an assembly where one of these configures it, of that size, and no other
abbrev pub HasSizes : Ends → List AssemblyConfig → Type 0
HasSizes t configs =
    (i : InstanceNumber) → size_in t.objects.assemblies i ≡ size_in (zeroed configs) i
