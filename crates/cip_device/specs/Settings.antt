-- The settings that C gives.
use Rattle.std.specs.Prelude.{◌≡◌, ℕ, Bool, true, ◌&&◌, nat_lt, nat_le, IsTrue, List, [], map, take, Option, Some, None, if◌then◌else◌, ◌==◌}
use Rattle.std.specs.List.{list_all}
use Rattle.cip_base.specs.Words.{Octets}
use Rattle.cip_target.specs.declared.config.AssemblyConfig.{AssemblyConfig}
use Rattle.cip_target.specs.declared.identity.IdentityFields.{IdentityFields}
use Rattle.cip_config.specs.declared.config.LegalAddresses.{LegalAddresses}
use Rattle.cip_config.specs.declared.config.LegalAddresses.TheVariants.{Byte, Text}
use Rattle.cip_config.specs.declared.config.ModuleKind.{ModuleKind}
use Rattle.cip_config.specs.declared.config.ModuleKind.TheVariants.{Plain, Adapter, Indexed}
use Rattle.cip_config.specs.declared.config.ModuleSettings.{ModuleSettings}
use Rattle.cip_config.specs.declared.config.PortConfig.{PortConfig}
use Rattle.cip_config.specs.Config.{is_settings}
use Rattle.cip_routing.specs.State.{initial_state}
use Rattle.cip_target.specs.Identity.{is_identity}
use Rattle.cip_device.specs.Shown.{Shown}
use Rattle.cip_device.specs.declared.settings.CipAssembly.{CipAssembly}
use Rattle.cip_device.specs.declared.settings.CipConfig.{CipConfig}
use Rattle.cip_device.specs.declared.settings.CipPort.{CipPort}

abbrev pub kind_of : ℕ → Option ModuleKind
kind_of k =
    if k == 0 then Some Plain
    else if k == 1 then Some Adapter
    else if k == 2 then Some Indexed
    else None

abbrev pub legal_of : CipPort → LegalAddresses
legal_of p = if p.is_text == 0 then Byte p.first p.last else Text p.last

abbrev pub port_of : CipPort → PortConfig
port_of p = record {
  number = p.number;
  link = 0;
  legal = legal_of p;
  address = take p.address_length p.address;
}

-- it has a number, and an address of 1 to 16 bytes
abbrev pub is_given_port : CipPort → Bool
is_given_port p =
    nat_lt 0 p.number && (nat_lt 0 p.address_length && nat_le p.address_length 16)

abbrev pub assembly_of : CipAssembly → AssemblyConfig
assembly_of a = record { instance = a.instance; size = a.size }

abbrev pub identity_of : CipConfig → Octets → IdentityFields
identity_of config product_name = record {
  vendor = config.vendor;
  device_type = config.device_type;
  product = config.product;
  major = config.major;
  minor = config.minor;
  status = config.status;
  serial = config.serial;
  name = product_name;
}

-- settings that say all that C gave, and nothing else
abbrev pub IsConfigOf : CipConfig → Octets → Octets → List CipPort → List CipAssembly
    → ModuleSettings → Type 0
IsConfigOf config name product_name ports assemblies settings =
    (kind_of config.kind ≡ Some settings.kind)
    × (settings ≡ record {
      name = name;
      kind = settings.kind;
      identity = identity_of config product_name;
      clock = config.clock;
      first_id = config.first_id;
      first_number = config.first_number;
      pending_room = config.pending_room;
      hop_room = config.hop_room;
      ports = map port_of ports;
      assemblies = map assembly_of assemblies;
    })

-- they are in their ranges
abbrev pub AreLegal : CipConfig → Octets → Octets → List CipPort → List CipAssembly → Type 0
AreLegal config name product_name ports assemblies =
    (list_all is_given_port ports ≡ true) × IsTrue (is_identity (identity_of config product_name))
    × ((settings : ModuleSettings) × IsConfigOf config name product_name ports assemblies settings
    × IsTrue (is_settings settings))

-- a device of these settings, as it begins, where there was none
abbrev pub IsNew : CipConfig → Octets → Octets → List CipPort → List CipAssembly
    → Option Shown → Option Shown → Type 0
IsNew config name product_name ports assemblies None (Some s) =
    IsConfigOf config name product_name ports assemblies s.config
    × (s.state ≡ initial_state s.config) × (s.outputs ≡ [])
IsNew config name product_name ports assemblies None None = ⊥
IsNew config name product_name ports assemblies (Some s) new = ⊥
