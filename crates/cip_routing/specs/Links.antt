-- Whether a message can be sent on by a link, which the groups of requests share.
use Rattle.std.specs.Prelude.{◌≡◌, ◌≤◌, nat_lt, not, if◌then◌else◌, Option, Some, None, is_some}
use Rattle.cip_base.specs.Words.{LinkAddress, Octets, PortIdentifier}
use Rattle.cip_base.specs.declared.timing.Timing.{Timing}
use Rattle.cip_segment.specs.Reading.{HopAt, hop_of}
use Rattle.cip_pending.specs.Pendings.{Pendings, refusal}
use Rattle.cip_config.specs.declared.config.PortConfig.{PortConfig}
use Rattle.cip_config.specs.declared.config.ModuleSettings.{ModuleSettings}
use Rattle.cip_routing.specs.declared.refusals.LinkRefusal.{LinkRefusal}
use Rattle.cip_routing.specs.declared.refusals.LinkRefusal.TheVariants.{NoSuchPort, LinkAddressNotLegal, TicksSpent, NoPendingLeft}
use Rattle.cip_config.specs.Config.{port_of, is_adapter, is_legal}
use Rattle.cip_routing.specs.State.{State}

-- ticks for it and for the module below, and a place among the requests that wait
abbrev pub wait_refusal : Pendings → Timing → Option LinkRefusal
wait_refusal p timing =
    if nat_lt timing.ticks 2 then Some TicksSpent
    else if is_some (refusal p) then Some NoPendingLeft
    else None

abbrev pub port_refusal : ModuleSettings → Pendings → Timing → LinkAddress → Option PortConfig
    → Option LinkRefusal
port_refusal config p timing address None = Some NoSuchPort
port_refusal config p timing address (Some own) =
    if is_adapter config.kind then Some NoSuchPort
    else if not (is_legal own.legal address) then Some LinkAddressNotLegal
    else wait_refusal p timing

-- the port, of a module that routes; then the address, the ticks and the room
unfoldable pub link_refusal : ModuleSettings → Pendings → Timing → PortIdentifier → LinkAddress
    → Option LinkRefusal
link_refusal config p timing port address =
    port_refusal config p timing address (port_of config port)

-- what is sent on has ticks for the module below, and a place among the requests that wait
abbrev pub CanWait : Pendings → Timing → Option LinkRefusal → Type 0
CanWait p timing (Some fault) = Unit {0}
CanWait p timing None = (2 ≤ timing.ticks) × (refusal p ≡ None)

-- the first hop of a path, which leads on by this link: the module may send there, and ticks are
-- left
pub record LeadsOn (config : ModuleSettings) (s : State) (timing : Timing) (path : Octets)
    (port : PortIdentifier) (address : LinkAddress) (rest : Octets) : Type 0 where
  pub hop : HopAt
  pub first : hop_of path ≡ Some hop
  pub port_is : port ≡ hop.port
  pub address_is : address ≡ hop.address
  pub rest_is : rest ≡ hop.rest
  pub link : link_refusal config s.pendings timing port address ≡ None
  pub ticks : 2 ≤ timing.ticks
