-- The rules of a topology file, in the order in which they are looked at.
use Rattle.std.specs.Prelude.{◌==◌, if◌then◌else◌, [], Result, Ok, Err}
use Rattle.toml.specs.Data.{Items, Members}
use Rattle.cip_topology.specs.declared.key.Key.{Key}
use Rattle.cip_topology.specs.declared.key.Key.TheVariants as key
use Rattle.cip_topology.specs.declared.place.Place.TheVariants.{File}
use Rattle.cip_topology.specs.declared.fault.LoadFault.{LoadFault}
use Rattle.cip_topology.specs.declared.fault.LoadFault.TheVariants.{NotToml, Missing, NoMemory}
use Rattle.cip_chassis.specs.Plan.{Plan}
use Rattle.cip_topology.specs.Keys.{Read, ◌>>=◌, value_at, array_of, item_count}
use Rattle.cip_topology.specs.LinkTables.{links_after}
use Rattle.cip_topology.specs.PortTables.{at_most}
use Rattle.cip_topology.specs.ModuleTables.{modules_after}

abbrev pub some_items : Key → Items → Read Items
some_items k items = if item_count items == 0 then Err (Missing k File) else Ok items

-- one table of the kind at least
abbrev pub tables_at : Key → Members → Read Items
tables_at k m = value_at File k m >>= λ d. (array_of File k d >>= some_items k)

abbrev pub plan_with : Items → Items → Read Plan
plan_with links modules =
    links_after [] links >>= λ ls.
    (modules_after ls [] modules >>= λ ms. Ok (record { links = ls; modules = ms }))

-- the topology of a document, or the first rule that it breaks
abbrev pub topology_of : Members → Read Plan
topology_of m =
    tables_at key.Link m >>= λ links.
    (tables_at key.Module m >>= λ modules.
    (at_most File key.Link 32 links >>= λ few.
    (at_most File key.Module 64 modules >>= λ some.
    plan_with links modules)))

-- the answer to a text that is no TOML
abbrev pub IsRefusal : {X : Type 0} → Result X LoadFault → Type 0
IsRefusal (Err (NotToml syntax)) = Unit {0}
IsRefusal (Err NoMemory) = Unit {0}
IsRefusal answer = ⊥
