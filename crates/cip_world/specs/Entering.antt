-- Data that are entered or sent from an assembly, the opens whose connections they go by, and what
-- is told of a datum that comes to its end.
use Rattle.std.specs.Prelude.{◌≡◌, ℕ, List, [], ◌∷◌, ◌==◌, if◌then◌else◌, Some, length}
use Rattle.std.specs.FinMap as map
use Rattle.cip_base.specs.Words.{ConnectionId, InstanceNumber, LinkAddress, Octets, OpNumber, PortIdentifier}
use Rattle.cip_base.specs.declared.numbers.ModuleId.{ModuleId}
use Rattle.cip_base.specs.declared.timing.Timing.{Timing}
use Rattle.cip_base.specs.declared.triad.Triad.{Triad}
use Rattle.cip_segment.specs.Reading.{segments_of}
use Rattle.cip_open.specs.Open.{Open}
use Rattle.cip_hops.specs.declared.hop.Hop.{Hop}
use Rattle.cip_hops.specs.declared.hop.Held.TheVariants.{Open as IsOpen}
use Rattle.cip_hops.specs.declared.opening.HopUp.TheVariants.{Link as UpLink}
use Rattle.cip_target.specs.ApplicationPath.{Application, application_of}
use Rattle.cip_config.specs.declared.config.ModuleSettings.{ModuleSettings}
use Rattle.cip_event.specs.declared.event.Body.TheVariants as bodies
use Rattle.cip_event.specs.declared.event.Command.TheVariants as commands
use Rattle.cip_event.specs.declared.event.Command.{Command as Asked}
use Rattle.cip_event.specs.declared.event.Output.{Output}
use Rattle.cip_event.specs.declared.event.Output.TheVariants as outputs
use Rattle.cip_event.specs.declared.event.Refused.{Refused}
use Rattle.cip_routing.specs.Table.{asked_open}
use Rattle.cip_laws.specs.Turns.{Has}
use Rattle.cip_chassis.specs.Plan.{Plan}
use Rattle.cip_chassis.specs.Walk.{Stop, walk}
use Rattle.cip_world.specs.declared.journal.Entry.TheVariants.{Step}
use Rattle.cip_world.specs.declared.journal.Input.{Input}
use Rattle.cip_world.specs.declared.journal.Input.TheVariants.{Command}
use Rattle.cip_world.specs.Journals.{Journal, entry_at}
use Rattle.cip_world.specs.Roots.{root_of}
use Rattle.cip_world.specs.Runs.{IsModule, state_in}

-- ---- entries

-- entry k is a step of module m, and this is among its outputs
pub record HasOutput (j : Journal) (k m : ℕ) (x : Output) : Type 0 where
  pub at : ModuleId
  pub input : Input
  pub outs : List Output
  pub is : entry_at j k ≡ Some (Step at input outs)
  pub at_is : at.0 ≡ m
  pub has : Has outs x

-- the journal as it was before entry k
abbrev pub before_entry : Journal → ℕ → Journal
before_entry [] k = []
before_entry (e ∷ j) k = if k == length j then j else before_entry j k

-- no row refused the command
abbrev pub IsTaken : List Output → Type 0
IsTaken outs = (fault : Refused) → Has outs (outputs.Refused fault) → ⊥

-- ---- what is entered and what is sent

-- entry k enters the datum on the connection that the op opened at module m: an Enter that is taken
pub record IsEntered (j : Journal) (k m : ℕ) (op : OpNumber) (bytes : Octets) : Type 0 where
  pub at : ModuleId
  pub outs : List Output
  pub is : entry_at j k ≡ Some (Step at (Command (commands.Enter op bytes)) outs)
  pub at_is : at.0 ≡ m
  pub taken : IsTaken outs

-- Entry k produces the datum at module m for a triad: a Produce of this assembly, in which the
-- frame by the connection that stands there under the triad carries the datum.
pub record IsProduced (t : Plan) (j : Journal) (k m : ℕ) (instance : InstanceNumber)
    (triad : Triad) (bytes : Octets) : Type 0 where
  pub at : ModuleId
  pub outs : List Output
  pub is : entry_at j k ≡ Some (Step at (Command (commands.Produce instance)) outs)
  pub at_is : at.0 ≡ m
  pub config : ModuleSettings
  pub is_module : IsModule t m config
  pub hop : Hop
  pub stands : map.get (state_in config m (before_entry j k)).hops.held triad ≡ Some (IsOpen hop)
  pub port : PortIdentifier
  pub to : LinkAddress
  pub their_id : ConnectionId
  pub up_is : hop.opening.up ≡ UpLink port to their_id
  pub sent : Has outs (outputs.Send port to (bodies.Data their_id bytes))

-- the open that the op asks for at module m, in a command which is taken
pub record IsOpened (t : Plan) (j : Journal) (m : ℕ) (op : OpNumber) (request : Open) : Type 0 where
  pub entry : ℕ
  pub at : ModuleId
  pub command : Asked
  pub outs : List Output
  pub is : entry_at j entry ≡ Some (Step at (Command command) outs)
  pub at_is : at.0 ≡ m
  pub taken : IsTaken outs
  pub config : ModuleSettings
  pub is_module : IsModule t m config
  pub asks : asked_open config.identity command ≡ Some (op, request)

-- the walk of a path from module m ends at module e, with this application path
pub record LeadsTo (t : Plan) (m : ℕ) (path : Octets) (e : ℕ) (application : Application) : Type 0
  where
    pub stop : Stop
    pub walk_is : walk t m path ≡ Some stop
    pub at_is : stop.at ≡ e
    pub application_is : application_of (segments_of stop.path) ≡ Some application

-- ---- at the end

-- Where a datum that entry k consumes comes from: its root entered it, at a module m on an op whose
-- open has the triad and a path that leads to the end and to the instance; and nothing else is
-- consumed of that root.
pub record ConsumedOf (t : Plan) (j : Journal) (k e : ℕ) (triad : Triad) (instance : InstanceNumber)
    (bytes : Octets) : Type 0 where
  pub root : ℕ
  pub root_is : root_of j k ≡ Some root
  pub m : ℕ
  pub op : OpNumber
  pub entered : IsEntered j root m op bytes
  pub request : Open
  pub opened : IsOpened t j m op request
  pub triad_is : request.fields.triad ≡ triad
  pub application : Application
  pub leads : LeadsTo t m request.path e application
  pub instance_is : application.consume ≡ instance
  pub only : (i n : ℕ) (q : Triad) (c : InstanceNumber) (b : Octets)
      → HasOutput j i n (outputs.Consumed q c b) → root_of j i ≡ Some root → i ≡ k

-- Where a datum that arrives at the op of module m in entry k comes from: its root produced it for
-- the triad of the op's open, at the module to which the open's path leads and of the instance
-- there; and no other datum of that root arrives at the op.
pub record ArrivedOf (t : Plan) (j : Journal) (k m : ℕ) (op : OpNumber) (bytes : Octets) : Type 0
  where
    pub root : ℕ
    pub root_is : root_of j k ≡ Some root
    pub request : Open
    pub opened : IsOpened t j m op request
    pub e : ℕ
    pub application : Application
    pub leads : LeadsTo t m request.path e application
    pub produced : IsProduced t j root e application.produce request.fields.triad bytes
    pub only : (i : ℕ) (b : Octets) → HasOutput j i m (outputs.Arrived op b)
        → root_of j i ≡ Some root → i ≡ k
