-- What a report says of the text of a topology file.
use Rattle.std.specs.Prelude.{ℕ, ◌≤◌, List, Option, Some, None, IsSomeAnd, IsOk}
use Rattle.toml.specs.Parse.{parse_document}
use Rattle.cip_topology.specs.declared.fault.LoadFault.{LoadFault}
use Rattle.cip_topology.specs.Files.{topology_of}

-- the text is TOML, and the document breaks no rule
abbrev pub IsTaken : List ℕ → Type 0
IsTaken text = IsSomeAnd (parse_document text) (λ document. IsOk (topology_of document))

-- a fault that was found has been told, and where none was found there is none
abbrev pub IsTold : List ℕ → ℕ → Option LoadFault → Type 0
IsTold text faults None = IsTaken text
IsTold text faults (Some fault) = 1 ≤ faults
