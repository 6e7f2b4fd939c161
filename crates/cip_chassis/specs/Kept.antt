-- How a topology is kept: its links, its modules, and an index of their ports.
use Rattle.cip_chassis.specs.Plan.{Plan, IsTopology}
use Rattle.cip_chassis.specs.Seats.{IsIndexOf}
use Rattle.cip_chassis.specs.declared.topology.Topology.TheInside.{Inside}

abbrev pub plan_of : Inside → Plan
plan_of t = record { links = t.links.items; modules = t.modules.items }

pub record IsKept (t : Inside) : Type 0 where
  pub keeps : IsTopology (plan_of t)
  pub seated : IsIndexOf t.modules.items t.seats
