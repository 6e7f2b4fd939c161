-- Frames as the code finds them.
use Rattle.std.specs.Prelude.{◌≡◌}
use Rattle.cip_chassis.specs.Plan.{Plan}
use Rattle.cip_chassis.specs.Nodes.{Way}
use Rattle.cip_event.specs.declared.frame.FrameName.{FrameName}
use Rattle.cip_world.specs.declared.flight.Flying.{Flying}
use Rattle.cip_world.specs.declared.flight.Coming.{Coming}
use Rattle.cip_world.specs.Journals.{Journal, Flight}
use Rattle.cip_world.specs.Runs.{IsWaiting}

abbrev pub flight : Flying → Flight
flight f = record {
  way = record { at = f.at.0; port = f.port; address = f.to.now };
  body = f.body.now;
}

-- the way by which a frame comes in
abbrev pub way_in : Coming → Way
way_in c = record { at = c.at.0; port = c.port; address = c.from.now }

-- the frame waits, and this is where it comes in
pub record IsComing (t : Plan) (j : Journal) (f : FrameName) (c : Coming) : Type 0 where
  pub waits : IsWaiting t j f
  pub here : waits.there ≡ way_in c
  pub body_is : waits.flight.body ≡ c.body.now
