-- The rules of a `[[module.port]]` and of a `[[module.assembly]]`, key by key.
use Rattle.std.specs.Prelude.{ℕ, ◌+◌, Bool, true, not, ◌||◌, ◌&&◌, ◌==◌, nat_lt, take, if◌then◌else◌, List, [], ◌∷◌, ◌++◌, length, Option, Some, None, Ok, Err}
use Rattle.std.specs.Prelude.{pos}
use Rattle.std.specs.List.{list_any}
use Rattle.std.specs.Str.{bytes_eq}
use Rattle.toml.specs.Data.{Data, Items, no_items, item, Members}
use Rattle.cip_base.specs.declared.limits.TheConstants.{MAX_DATUM}
use Rattle.cip_base.specs.Words.{Octets, LinkAddress}
use Rattle.cip_config.specs.declared.config.PortConfig.{PortConfig}
use Rattle.cip_config.specs.declared.config.ModuleKind.{ModuleKind}
use Rattle.cip_config.specs.Config.{has_number, has_instance, is_legal, is_adapter}
use Rattle.cip_target.specs.declared.config.AssemblyConfig.{AssemblyConfig}
use Rattle.cip_chassis.specs.declared.links.Link.{Link}
use Rattle.cip_topology.specs.declared.key.Key.{Key}
use Rattle.cip_topology.specs.declared.key.Key.TheVariants as key
use Rattle.cip_topology.specs.declared.place.Place.{Place}
use Rattle.cip_topology.specs.declared.found.Found.TheVariants as finds
use Rattle.cip_topology.specs.declared.fault.LoadFault.TheVariants.{Range, UnknownLink, AddressNotLegal, DoubleAddress, Limit}
use Rattle.cip_topology.specs.Faults.{port_in, assembly_in}
use Rattle.cip_chassis.specs.Nodes.{is_at}
use Rattle.cip_topology.specs.Keys.{Read, ◌>>=◌, number_at, text_at, address_at, items_at, item_count, table_of}

-- ---- ports

-- no port of the module has the number yet
abbrev pub new_number : Place → List PortConfig → ℕ → Read ℕ
new_number place ports n =
    if list_any (has_number n) ports then Err (Range key.Number place (finds.Integer (pos n)))
    else Ok n

-- the link of a name, with its place, where the first of these has the place i
abbrev pub link_from : ℕ → List Link → Octets → Option (ℕ × Link)
link_from i [] name = None
link_from i (l ∷ ls) name =
    if bytes_eq l.name name then Some (i, l) else link_from (i + 1) ls name

abbrev pub link_or : Place → Octets → Option (ℕ × Link) → Read (ℕ × Link)
link_or place name None = Err (UnknownLink place (take 40 name))
link_or place name (Some found) = Ok found

-- the name is that of a link
abbrev pub link_named : Place → List Link → Octets → Read (ℕ × Link)
link_named place links name = link_or place name (link_from 0 links name)

-- on that link: the address is legal there, and stands neither at a module before this one (it is
-- not taken) nor at a port of this module
abbrev pub port_on : Place → (ℕ → LinkAddress → Bool) → List PortConfig → ℕ → LinkAddress
    → ℕ × Link → Read PortConfig
port_on place taken ports number address on =
    if not (is_legal on.1.legal address)
    then Err (AddressNotLegal place on.1.name on.1.legal address)
    else if taken on.0 address || list_any (is_at on.0 address) ports
    then Err (DoubleAddress place on.1.name address)
    else Ok (record {
      number = number;
      link = on.0;
      legal = on.1.legal;
      address = address;
    })

abbrev pub port_of_table : Place → List Link → (ℕ → LinkAddress → Bool) → List PortConfig
    → Members → Read PortConfig
port_of_table place links taken ports m =
    number_at place key.Number 1 65535 m >>= λ n.
    (new_number place ports n >>= λ number.
    (text_at (λ s. true) place key.Link m >>= λ name.
    (address_at place m >>= λ address.
    (link_named place links name >>= port_on place taken ports number address))))

unfoldable pub port_of : Place → List Link → (ℕ → LinkAddress → Bool) → List PortConfig
    → Data → Read PortConfig
port_of place links taken ports d =
    table_of place key.Port d >>= port_of_table place links taken ports

-- the ports, after those of the module that were read before
abbrev pub ports_after : Place → List Link → (ℕ → LinkAddress → Bool) → List PortConfig
    → Items → Read (List PortConfig)
ports_after place links taken ports no_items = Ok ports
ports_after place links taken ports (item d ds) =
    port_of (port_in place (length ports + 1)) links taken ports d >>= λ p.
    ports_after place links taken (ports ++ p ∷ []) ds

-- 1 to 8 of them, of an adapter one
abbrev pub right_ports : Place → ModuleKind → Items → Read Items
right_ports place kind items =
    if nat_lt 8 (item_count items) then Err (Limit key.Port place (item_count items))
    else if item_count items == 0 || (is_adapter kind && nat_lt 1 (item_count items))
    then Err (Range key.Port place (finds.Count (item_count items)))
    else Ok items

abbrev pub ports_at : Place → List Link → (ℕ → LinkAddress → Bool) → ModuleKind → Members
    → Read (List PortConfig)
ports_at place links taken kind m =
    items_at place key.Port m >>= λ items.
    (right_ports place kind items >>= ports_after place links taken [])

-- ---- assemblies

-- no assembly of the module has the instance yet
abbrev pub new_instance : Place → List AssemblyConfig → ℕ → Read ℕ
new_instance place assemblies n =
    if list_any (has_instance n) assemblies
    then Err (Range key.Instance place (finds.Integer (pos n)))
    else Ok n

abbrev pub assembly_of_table : Place → List AssemblyConfig → Members → Read AssemblyConfig
assembly_of_table place assemblies m =
    number_at place key.Instance 1 65535 m >>= λ n.
    (new_instance place assemblies n >>= λ instance.
    (number_at place key.Size 0 MAX_DATUM m >>= λ size.
    Ok (record { instance = instance; size = size })))

unfoldable pub assembly_of : Place → List AssemblyConfig → Data → Read AssemblyConfig
assembly_of place assemblies d =
    table_of place key.Assembly d >>= assembly_of_table place assemblies

-- the assemblies, after those of the module that were read before
abbrev pub assemblies_after : Place → List AssemblyConfig → Items → Read (List AssemblyConfig)
assemblies_after place assemblies no_items = Ok assemblies
assemblies_after place assemblies (item d ds) =
    assembly_of (assembly_in place (length assemblies + 1)) assemblies d >>= λ a.
    assemblies_after place (assemblies ++ a ∷ []) ds

-- at most so many tables of a kind
abbrev pub at_most : Place → Key → ℕ → Items → Read Items
at_most place k most items =
    if nat_lt most (item_count items) then Err (Limit k place (item_count items)) else Ok items

abbrev pub assemblies_at : Place → Members → Read (List AssemblyConfig)
assemblies_at place m =
    items_at place key.Assembly m >>= λ items.
    (at_most place key.Assembly 64 items >>= assemblies_after place [])
