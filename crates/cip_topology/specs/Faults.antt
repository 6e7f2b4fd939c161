-- What a fault tells: the place, and the value that stands there.
use Rattle.std.specs.Prelude.{ℕ, length, take}
use Rattle.toml.specs.Data.{Data, string, integer, float, boolean, datetime, array, table}
use Rattle.cip_topology.specs.declared.place.Place.{Place}
use Rattle.cip_topology.specs.declared.place.Place.TheVariants as places
use Rattle.cip_topology.specs.declared.found.Found.{Found}
use Rattle.cip_topology.specs.declared.found.Found.TheVariants as finds

-- a port of a module
abbrev pub port_in : Place → ℕ → Place
port_in (places.Module number name) port = places.Port number name port
port_in place port = place

-- an assembly of a module
abbrev pub assembly_in : Place → ℕ → Place
assembly_in (places.Module number name) assembly = places.Assembly number name assembly
assembly_in place assembly = place

abbrev pub found_of : Data → Found
found_of (string s) = finds.Text (take 40 s) (length s)
found_of (integer z) = finds.Integer z
found_of (float x) = finds.Float
found_of (boolean b) = finds.Boolean
found_of (datetime d) = finds.Date
found_of (array ds) = finds.Array
found_of (table ms) = finds.Table
