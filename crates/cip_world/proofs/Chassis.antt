-- A topology whose ways lead back: who answers by the way by which a frame came in is heard by the way by which it went out.
use Rattle.std.proofs.Common.{◌≡◌, Some}
use Rattle.cip_chassis.specs.Plan.{Plan, IsTopology}
use Rattle.cip_chassis.specs.Nodes.{Way, across as goes}
use Rattle.cip_chassis.proofs.WayBack.{leads_back}

pub record Chassis : Type 0 where
  pub plan : Plan
  pub back : (way there : Way) → goes plan way ≡ Some there → goes plan there ≡ Some way

abbrev pub chassis : (t : Plan) → IsTopology t → Chassis
chassis t is = record { plan = t; back = leads_back t is }
