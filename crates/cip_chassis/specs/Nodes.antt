-- Where the frames of a topology come, by its links and the addresses of its ports.
use Rattle.std.specs.Prelude.{ℕ, ◌+◌, ◌==◌, ◌&&◌, Bool, Option, Some, None, option_map, option_and_then, find, slice_get, List, [], ◌∷◌}
use Rattle.std.specs.Str.{bytes_eq}
use Rattle.cip_base.specs.Words.{LinkAddress, PortIdentifier}
use Rattle.cip_config.specs.declared.config.ModuleSettings.{ModuleSettings}
use Rattle.cip_config.specs.declared.config.PortConfig.{PortConfig}
use Rattle.cip_config.specs.Config.{port_of}
use Rattle.cip_chassis.specs.Plan.{Plan}

-- the port has this address on this link
abbrev pub is_at : ℕ → LinkAddress → PortConfig → Bool
is_at link address p = p.link == link && bytes_eq p.address address

-- a port of a module, with the module's place
pub record Node : Type 0 where
  pub at : ℕ
  pub port : PortConfig

abbrev pub or_later : ℕ → Option PortConfig → Option Node → Option Node
or_later i None later = later
or_later i (Some p) later = Some (record { at = i; port = p })

-- the port with this address on this link, among modules of which the first has the place i
abbrev pub node_from : ℕ → List ModuleSettings → ℕ → LinkAddress → Option Node
node_from i [] link address = None
node_from i (c ∷ cs) link address =
    or_later i (find (is_at link address) c.ports) (node_from (i + 1) cs link address)

-- the port of this number that module m has
abbrev pub own_port : Plan → ℕ → PortIdentifier → Option PortConfig
own_port t m q = option_and_then (λ c. port_of c q) (slice_get t.modules m)

abbrev pub node_on : Plan → LinkAddress → Option PortConfig → Option Node
node_on t address None = None
node_on t address (Some p) = node_from 0 t.modules p.link address

-- the module with this address on the link of module m's port q
abbrev pub node : Plan → ℕ → PortIdentifier → LinkAddress → Option ℕ
node t m q address = option_map (λ (n : Node). n.at) (node_on t address (own_port t m q))

-- A way out of a module and into it: one of its ports, and an address of another port on that link.
-- A frame leaves by the way with its receiver's address, and comes in by the way with its sender's.
pub record Way : Type 0 where
  pub at : ℕ
  pub port : PortIdentifier
  pub address : LinkAddress

abbrev pub comes_in : LinkAddress → Option Node → Option Way
comes_in from None = None
comes_in from (Some n) = Some (record { at = n.at; port = n.port.number; address = from })

abbrev pub leaves_by : List ModuleSettings → LinkAddress → Option PortConfig → Option Way
leaves_by modules to None = None
leaves_by modules to (Some p) = comes_in p.address (node_from 0 modules p.link to)

-- by which way a frame comes in that leaves by this one, where a port has that address
abbrev pub across : Plan → Way → Option Way
across t way = leaves_by t.modules way.address (own_port t way.at way.port)
