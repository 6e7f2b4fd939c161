-- How the assemblies are kept, and what is true of the list in which they stand.
use Rattle.std.specs.Prelude.{ℕ, ◌≤◌, T, List, [], ◌∷◌, length, replicate, slice_index_or, Option, Some, None}
use Rattle.std.specs.Ordering.{nat_cmp}
use Rattle.std.specs.FinMap as map
use Rattle.cip_base.specs.declared.limits.TheConstants.{MAX_DATUM}
use Rattle.cip_base.specs.Words.{Octets, InstanceNumber}
use Rattle.cip_base.specs.declared.triad.Triad.{Triad}
use Rattle.cip_target.specs.declared.assembly.Assembly.{Assembly}
use Rattle.cip_target.specs.Assemblies.{AssemblyMap, Owners, size_in, written_over, owned_with}

-- the bytes of each instance, and the owners of those that have one
pub record Holdings : Type 0 where
  pub bytes : AssemblyMap
  pub owners : Owners

-- with these assemblies, none of which has an owner
abbrev pub unowned : AssemblyMap → Holdings
unowned m = record { bytes = m; owners = map.empty }

-- with a fresh assembly, which has no owner
abbrev pub with_fresh : Holdings → InstanceNumber → Octets → Holdings
with_fresh h i b = record { bytes = map.insert h.bytes i b; owners = map.remove h.owners i }

-- with these bytes in an assembly
abbrev pub with_bytes : Holdings → InstanceNumber → Octets → Holdings
with_bytes h i b = record { bytes = map.insert h.bytes i b; owners = h.owners }

-- with as much of the bytes in an assembly as it has
abbrev pub with_front : Holdings → InstanceNumber → Octets → Holdings
with_front h i b = record {
  bytes = written_over h.bytes i b (map.get h.bytes i);
  owners = h.owners;
}

-- with the owner of an assembly that has bytes
abbrev pub with_output : Holdings → InstanceNumber → Triad → Holdings
with_output h i triad = record {
  bytes = h.bytes;
  owners = owned_with h.owners i triad (size_in h.bytes i);
}

abbrev pub without_owner : Holdings → InstanceNumber → Holdings
without_owner h i = record { bytes = h.bytes; owners = map.remove h.owners i }

-- each assembly under its instance
abbrev pub Kept : Type 0
Kept = map.FinMap nat_cmp Assembly

abbrev pub bytes_in : List (InstanceNumber × Assembly) → List (InstanceNumber × Octets)
bytes_in [] = []
bytes_in (e ∷ es) = (e.0, e.1.bytes) ∷ bytes_in es

unfoldable pub bytes_of : Kept → AssemblyMap
bytes_of m = map.from_sorted (bytes_in (map.entries m))

abbrev pub with_owner : Owners → InstanceNumber → Option Triad → Owners
with_owner owners i None = map.remove owners i
with_owner owners i (Some triad) = map.insert owners i triad

abbrev pub owners_in : List (InstanceNumber × Assembly) → Owners
owners_in [] = map.empty
owners_in (e ∷ es) = with_owner (owners_in es) e.0 e.1.owner

unfoldable pub owners_of : Kept → Owners
owners_of m = owners_in (map.entries m)

abbrev pub holdings : Kept → Holdings
holdings m = record { bytes = bytes_of m; owners = owners_of m }

-- an assembly as a target begins with it: as many bytes, all of them 00, and no owner
abbrev pub cleared : Assembly → Assembly
cleared a = record { bytes = replicate (length a.bytes) 0; owner = None }

-- each of them
abbrev pub all_cleared : List (InstanceNumber × Assembly) → List (InstanceNumber × Assembly)
all_cleared [] = []
all_cleared (e ∷ es) = (e.0, cleared e.1) ∷ all_cleared es

-- stands for what is past the end of the list
abbrev pub nothing : InstanceNumber × Assembly
nothing = (0, record { bytes = []; owner = None })

pub record IsHeld (held : List (InstanceNumber × Assembly)) : Type 0 where
  pub sorted : T (map.is_sorted nat_cmp held)
  pub fits : (i : ℕ) → length (slice_index_or held i nothing).1.bytes ≤ MAX_DATUM
