-- Which keys a module may have, and what its ports and its identity say of an address and of a key.
use Rattle.std.specs.Prelude.{ℕ, ◌^◌, Bool, true, false, not, ◌&&◌, ◌||◌, ◌==◌, nat_lt, nat_le, List, [], ◌∷◌, length, slice_index, find}
use Rattle.std.specs.Prelude.{Option}
use Rattle.std.specs.List.{list_all, list_any}
use Rattle.cip_base.specs.Counts.{count_of}
use Rattle.cip_config.specs.declared.config.ModuleKind.{ModuleKind}
use Rattle.cip_config.specs.declared.config.ModuleKind.TheVariants.{Plain, Adapter, Indexed}
use Rattle.cip_config.specs.declared.config.LegalAddresses.{LegalAddresses}
use Rattle.cip_config.specs.declared.config.LegalAddresses.TheVariants.{Byte, Text}
use Rattle.cip_config.specs.declared.config.PortConfig.{PortConfig}
use Rattle.cip_target.specs.declared.config.AssemblyConfig.{AssemblyConfig}
use Rattle.cip_target.specs.Assemblies.{is_assembly}
use Rattle.cip_config.specs.declared.config.ModuleSettings.{ModuleSettings}

-- an ASCII letter or digit, `_` or `-`
abbrev pub is_name_byte : ℕ → Bool
is_name_byte c = (nat_le 48 c && nat_le c 57)
    || ((nat_le 65 c && nat_le c 90) || ((nat_le 97 c && nat_le c 122) || (c == 95 || c == 45)))

abbrev pub is_name : List ℕ → Bool
is_name s = nat_le 1 (length s) && (nat_le (length s) 16 && list_all is_name_byte s)

-- a character of an address on a text link, from 21 to 7E
abbrev pub is_text_byte : ℕ → Bool
is_text_byte c = nat_le 0x21 c && nat_le c 0x7E

-- the bounds of a link's addresses
abbrev pub is_range : LegalAddresses → Bool
is_range (Byte first last) = nat_le first last
is_range (Text longest) = nat_le 1 longest && nat_le longest 16

-- whether the address is legal on the link
abbrev pub is_legal : LegalAddresses → List ℕ → Bool
is_legal (Byte first last) a = length a == 1
    && (nat_le first (slice_index a 0) && nat_le (slice_index a 0) last)
is_legal (Text longest) a = nat_le (length a) longest && list_all is_text_byte a

abbrev pub is_port : PortConfig → Bool
is_port p = is_range p.legal && is_legal p.legal p.address

abbrev pub has_number : ℕ → PortConfig → Bool
has_number n p = p.number == n

abbrev pub numbers_differ : List PortConfig → Bool
numbers_differ [] = true
numbers_differ (p ∷ ps) = not (list_any (has_number p.number) ps) && numbers_differ ps

-- a module that routes has 1 to 8 ports, an adapter one
abbrev pub most_ports : ModuleKind → ℕ
most_ports Plain = 8
most_ports Adapter = 1
most_ports Indexed = 8

abbrev pub are_ports : ModuleKind → List PortConfig → Bool
are_ports kind ps = nat_le 1 (length ps)
    && (nat_le (length ps) (most_ports kind) && (list_all is_port ps && numbers_differ ps))

abbrev pub has_instance : ℕ → AssemblyConfig → Bool
has_instance n a = a.instance == n

abbrev pub instances_differ : List AssemblyConfig → Bool
instances_differ [] = true
instances_differ (a ∷ as') = not (list_any (has_instance a.instance) as') && instances_differ as'

abbrev pub are_assemblies : List AssemblyConfig → Bool
are_assemblies as' = nat_le (length as') 64 && (list_all is_assembly as' && instances_differ as')

abbrev pub is_room : ℕ → ℕ → Bool
is_room most n = nat_le 1 n && nat_le n most

-- the clock below 2^63, counts of the first id and number from 1, the rooms from 1 to 256
abbrev pub are_counts : ModuleSettings → Bool
are_counts s = nat_lt s.clock (2 ^ 63)
    && (nat_le 1 (count_of s.first_id) && (nat_le 1 (count_of s.first_number)
    && (is_room 256 s.pending_room && is_room 256 s.hop_room)))

-- the settings that a module can have
abbrev pub is_settings : ModuleSettings → Bool
is_settings s = is_name s.name && (are_counts s
    && (are_ports s.kind s.ports && are_assemblies s.assemblies))

-- the port of a number, if the module has it
abbrev pub port_of : ModuleSettings → ℕ → Option PortConfig
port_of config q = find (has_number q) config.ports

abbrev pub is_adapter : ModuleKind → Bool
is_adapter Plain = false
is_adapter Adapter = true
is_adapter Indexed = false
