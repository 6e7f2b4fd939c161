-- What laws of runs tell, with the entries that they tell it of.
use Rattle.std.specs.Prelude.{◌≡◌, ℕ, Bool, List}
use Rattle.cip_base.specs.Words.{InstanceNumber, LinkAddress, Octets, OpNumber, PortIdentifier, RequestNumber}
use Rattle.cip_base.specs.declared.triad.Triad.{Triad}
use Rattle.cip_event.specs.declared.event.Body.TheVariants as bodies
use Rattle.cip_event.specs.declared.event.Dropped.TheVariants.{Late}
use Rattle.cip_event.specs.declared.event.Event.TheVariants as events
use Rattle.cip_event.specs.declared.event.Output.TheVariants as outputs
use Rattle.cip_laws.specs.Turns.{Has}
use Rattle.cip_chassis.specs.Plan.{Plan}
use Rattle.cip_world.specs.Entering.{ArrivedOf, ConsumedOf}
use Rattle.cip_world.specs.Journals.{Journal}
use Rattle.cip_world.specs.StepsIn.{StepIn, state_before}
use Rattle.cip_world.specs.TrailTells.{AnsweredThere, EndsThere, OpenDone, TellsWhere}

-- what entry k takes at module e was entered in this entry, at module m on the op
pub record ConsumedFrom (t : Plan) (j : Journal) (k e : ℕ) (triad : Triad)
    (instance : InstanceNumber) (bytes : Octets) (root m : ℕ) (op : OpNumber) : Type 0 where
  pub of_it : ConsumedOf t j k e triad instance bytes
  pub root_is : of_it.root ≡ root
  pub m_is : of_it.m ≡ m
  pub op_is : of_it.op ≡ op

-- what arrives in entry k at the op of module m was produced in this entry, at module e
pub record ArrivedFrom (t : Plan) (j : Journal) (k m : ℕ) (op : OpNumber) (bytes : Octets)
    (root e : ℕ) : Type 0 where
  pub of_it : ArrivedOf t j k m op bytes
  pub root_is : of_it.root ≡ root
  pub e_is : of_it.e ≡ e

-- the Done tells that the open, large or not, failed in this entry, where its path had so many
-- words
pub record FailsAt (t : Plan) (j : Journal) (ks : List ℕ) (m : ℕ) (path : Octets) (large : Bool)
    (bytes : Octets) (place words : ℕ) : Type 0 where
  pub done : OpenDone t j ks m path large bytes
  pub tells : TellsWhere t j ks done.reply
  pub place_is : tells.place ≡ place
  pub words_is : tells.words ≡ words

-- the Done tells that the open, large or not, was accepted in this entry, at module e
pub record SucceedsAt (t : Plan) (j : Journal) (ks : List ℕ) (m : ℕ) (path : Octets) (large : Bool)
    (bytes : Octets) (place e : ℕ) : Type 0 where
  pub done : OpenDone t j ks m path large bytes
  pub ends : EndsThere t j ks m path
  pub place_is : ends.place ≡ place
  pub at_is : ends.step.at.0 ≡ e

-- the Done of a Send has the target's answer in this entry, at module e
pub record AnsweredAt (t : Plan) (j : Journal) (ks : List ℕ) (m : ℕ) (path request bytes : Octets)
    (place e : ℕ) : Type 0 where
  pub answered : AnsweredThere t j ks m path request bytes
  pub place_is : answered.place ≡ place
  pub at_is : answered.step.at.0 ≡ e

-- the reply that comes in entry k is dropped as late, and changes no state
pub record ComesLate (t : Plan) (j : Journal) (k : ℕ) (port : PortIdentifier) (from : LinkAddress)
    (n : RequestNumber) (bytes : Octets) : Type 0 where
  pub step : StepIn t j k
  pub event_is : step.taken.event ≡ events.Frame port from (bodies.Reply n bytes)
  pub dropped : Has step.outputs (outputs.Dropped Late)
  pub same : step.taken.new ≡ state_before step
