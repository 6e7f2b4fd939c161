-- The assemblies of a target: the bytes of each instance, and the owner of each that has one.
use Rattle.std.specs.Prelude.{◌≡◌, ℕ, IsSomeAnd, Bool, ◌&&◌, nat_le, nat_lt, true, if◌then◌else◌, List, [], ◌∷◌, length, Option, Some, None, option_map}
use Rattle.std.specs.Prelude.{replicate, find, take}
use Rattle.std.specs.Ordering.{nat_cmp}
use Rattle.std.specs.Coded.{Coded, coded_list, coded_ℕ}
use Rattle.std.specs.FinMap as map
use Rattle.cip_base.specs.declared.limits.TheConstants.{MAX_DATUM}
use Rattle.cip_base.specs.Words.{Octets, InstanceNumber}
use Rattle.cip_base.specs.Triads.{coded_triad}
use Rattle.cip_base.specs.declared.triad.Triad.{Triad}
use Rattle.cip_target.specs.declared.config.AssemblyConfig.{AssemblyConfig}

-- from instances to bytes
abbrev pub AssemblyMap : Type 0
AssemblyMap = map.FinMap nat_cmp Octets

abbrev pub coded_assemblies : Coded AssemblyMap
coded_assemblies = map.code {R = nat_cmp} coded_ℕ (coded_list coded_ℕ)

-- from O→T instances that are owned to the triads of the connections that own them
abbrev pub Owners : Type 0
Owners = map.FinMap nat_cmp Triad

abbrev pub coded_owners : Coded Owners
coded_owners = map.code {R = nat_cmp} coded_ℕ coded_triad

-- an instance from 1, and no more bytes than a datum may have
abbrev pub is_assembly : AssemblyConfig → Bool
is_assembly a = nat_le 1 a.instance && nat_le a.size MAX_DATUM

-- with each of these assemblies in turn, all of its bytes 00; the last of an instance stands
abbrev pub zeroed_onto : AssemblyMap → List AssemblyConfig → AssemblyMap
zeroed_onto m [] = m
zeroed_onto m (a ∷ others) = zeroed_onto (map.insert m a.instance (replicate a.size 0)) others

-- the assemblies that a target begins with
abbrev pub zeroed : List AssemblyConfig → AssemblyMap
zeroed configs = zeroed_onto map.empty configs

-- the size of an assembly, if it exists
abbrev pub size_in : AssemblyMap → InstanceNumber → Option ℕ
size_in m i = option_map length (map.get m i)

-- the assembly exists, and has as many bytes
abbrev pub HasSize : AssemblyMap → InstanceNumber → ℕ → Type 0
HasSize m i size = IsSomeAnd (map.get m i) (λ held. size ≡ length held)

abbrev pub config_with : InstanceNumber → Octets → AssemblyConfig
config_with i held = record { instance = i; size = length held }

-- what these assemblies are, each by its instance and size
abbrev pub configs_of : List (InstanceNumber × Octets) → List AssemblyConfig
configs_of [] = []
configs_of (e ∷ others) = config_with e.0 e.1 ∷ configs_of others

-- the assemblies of a target, in rising instance
abbrev pub configs_in : AssemblyMap → List AssemblyConfig
configs_in m = configs_of (map.entries m)

-- what is said of an assembly, if it exists
abbrev pub config_in : AssemblyMap → InstanceNumber → Option AssemblyConfig
config_in m i = option_map (config_with i) (map.get m i)

-- with as much of the bytes in an assembly as it has
abbrev pub written_over : AssemblyMap → InstanceNumber → Octets → Option Octets → AssemblyMap
written_over m i b None = m
written_over m i b (Some held) = map.insert m i (take (length held) b)

-- an assembly with bytes is owned by the connection that writes it
abbrev pub owned_with : Owners → InstanceNumber → Triad → Option ℕ → Owners
owned_with owners i triad None = owners
owned_with owners i triad (Some size) = if nat_lt 0 size then map.insert owners i triad else owners

abbrev pub is_above : Option InstanceNumber → InstanceNumber → Bool
is_above None instance = true
is_above (Some n) instance = nat_lt n instance

-- the assembly of the least instance above this one, or of all
abbrev pub first_above : Option InstanceNumber → AssemblyMap → Option (InstanceNumber × Octets)
first_above after m = find (λ e. is_above after e.0) (map.entries m)
