-- The rules of a `[[module]]`, key by key.
use Rattle.std.specs.Prelude.{ℕ, ◌+◌, Bool, ◌&&◌, ◌==◌, is_some, if◌then◌else◌, List, [], ◌∷◌, ◌++◌, length, codes, Option, Some, None, Ok, Err}
use Rattle.std.specs.List.{list_any}
use Rattle.std.specs.Str.{bytes_eq}
use Rattle.toml.specs.Data.{Data, Items, no_items, item, Members, as_str}
use Rattle.cip_base.specs.Words.{Octets, LinkAddress}
use Rattle.cip_config.specs.declared.config.ModuleKind.{ModuleKind}
use Rattle.cip_config.specs.declared.config.ModuleKind.TheVariants.{Plain, Adapter, Indexed}
use Rattle.cip_config.specs.declared.config.ModuleSettings.{ModuleSettings}
use Rattle.cip_target.specs.Identity.{is_product_name}
use Rattle.cip_target.specs.declared.identity.IdentityFields.{IdentityFields}
use Rattle.cip_chassis.specs.declared.links.Link.{Link}
use Rattle.cip_topology.specs.declared.module_tables.Counts.{Counts}
use Rattle.cip_topology.specs.declared.key.Key.TheVariants as key
use Rattle.cip_topology.specs.declared.place.Place.{Place}
use Rattle.cip_topology.specs.declared.place.Place.TheVariants as places
use Rattle.cip_topology.specs.declared.fault.LoadFault.TheVariants.{DoubleName, DoubleOriginator}
use Rattle.cip_chassis.specs.Nodes.{node_from}
use Rattle.cip_topology.specs.Keys.{Read, ◌>>=◌, value_at, out_of_range, number_at, number_or_at, counted_at, text_at, name_at, table_of}
use Rattle.cip_topology.specs.PortTables.{ports_at, assemblies_at}

abbrev pub kind_of : Place → Data → Option Octets → Read ModuleKind
kind_of place d None = out_of_range place key.Kind d
kind_of place d (Some kind) =
    if bytes_eq kind (codes "plain") then Ok Plain
    else if bytes_eq kind (codes "adapter") then Ok Adapter
    else if bytes_eq kind (codes "indexed") then Ok Indexed
    else out_of_range place key.Kind d

abbrev pub kind_at : Place → Members → Read ModuleKind
kind_at place m = value_at place key.Kind m >>= λ d. kind_of place d (as_str d)

-- what the Identity object says
abbrev pub identity_at : Place → Members → Read IdentityFields
identity_at place m =
    number_at place key.Vendor 0 65535 m >>= λ vendor.
    (number_at place key.DeviceType 0 65535 m >>= λ device_type.
    (number_at place key.Product 0 65535 m >>= λ product.
    (number_at place key.Major 0 127 m >>= λ major.
    (number_at place key.Minor 0 255 m >>= λ minor.
    (number_or_at place key.Status 0 0 65535 m >>= λ status.
    (number_at place key.Serial 0 4294967295 m >>= λ serial.
    (text_at is_product_name place key.ProductName m >>= λ name.
    Ok (record {
      vendor = vendor;
      device_type = device_type;
      product = product;
      major = major;
      minor = minor;
      status = status;
      serial = serial;
      name = name;
    }))))))))

-- with what the module begins, and its rooms
abbrev pub counts_at : Place → Members → Read Counts
counts_at place m =
    number_or_at place key.Clock 0 0 9223372036854775807 m >>= λ clock.
    (counted_at place key.FirstId m >>= λ first_id.
    (counted_at place key.FirstNumber m >>= λ first_number.
    (number_or_at place key.PendingRoom 256 1 256 m >>= λ pending_room.
    (number_or_at place key.HopRoom 256 1 256 m >>= λ hop_room.
    Ok (record {
      clock = clock;
      first_id = first_id;
      first_number = first_number;
      pending_room = pending_room;
      hop_room = hop_room;
    })))))

-- no module before this one has the name
abbrev pub new_name : Place → List ModuleSettings → Octets → Read Octets
new_name place modules name =
    if list_any (λ (c : ModuleSettings). bytes_eq c.name name) modules
    then Err (DoubleName place)
    else Ok name

abbrev pub has_originator : IdentityFields → ModuleSettings → Bool
has_originator i c = c.identity.vendor == i.vendor && c.identity.serial == i.serial

-- no module before this one has the vendor and the serial number
abbrev pub new_originator : Place → List ModuleSettings → IdentityFields → Read IdentityFields
new_originator place modules i =
    if list_any (has_originator i) modules then Err (DoubleOriginator place i.vendor i.serial)
    else Ok i

-- a port of one of the modules has the address on the link
abbrev pub is_taken : List ModuleSettings → ℕ → LinkAddress → Bool
is_taken modules link address = is_some (node_from 0 modules link address)

abbrev pub named_settings : Place → Octets → List Link → List ModuleSettings → Members
    → Read ModuleSettings
named_settings place name links modules m =
    kind_at place m >>= λ kind.
    (identity_at place m >>= λ identity.
    (counts_at place m >>= λ counts.
    (new_name place modules name >>= λ new.
    (ports_at place links (is_taken modules) kind m >>= λ ports.
    (assemblies_at place m >>= λ assemblies.
    (new_originator place modules identity >>= λ own.
    Ok (record {
      name = name;
      kind = kind;
      identity = identity;
      clock = counts.clock;
      first_id = counts.first_id;
      first_number = counts.first_number;
      pending_room = counts.pending_room;
      hop_room = counts.hop_room;
      ports = ports;
      assemblies = assemblies;
    })))))))

abbrev pub settings_of_table : ℕ → List Link → List ModuleSettings → Members
    → Read ModuleSettings
settings_of_table number links modules m =
    name_at (places.Module number None) m >>= λ name.
    named_settings (places.Module number (Some name)) name links modules m

unfoldable pub settings_of : ℕ → List Link → List ModuleSettings → Data → Read ModuleSettings
settings_of number links modules d =
    table_of (places.Module number None) key.Module d >>= settings_of_table number links modules

-- the modules, after those that were read before
abbrev pub modules_after : List Link → List ModuleSettings → Items → Read (List ModuleSettings)
modules_after links modules no_items = Ok modules
modules_after links modules (item d ds) =
    settings_of (length modules + 1) links modules d >>= λ c.
    modules_after links (modules ++ c ∷ []) ds
