use Rattle.cip_chassis.proofs.WayBack.{leads_back}
use Rattle.cip_chassis.proofs.laws.the_way_back_leads_back.Goals as goal

pub returns : goal.returns
returns c = leads_back
