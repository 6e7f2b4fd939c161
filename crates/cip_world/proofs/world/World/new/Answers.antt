use Rattle.cip_world.proofs.Freshness.{fresh_stand}
use Rattle.cip_world.proofs.world.World.new.Goals as goal

pub returns-clause-stand : goal.returns-clause-stand
returns-clause-stand g c =
    fresh_stand c.new.result c.args.topology _ _ (rw c.as_slice.ensures.value at c.in_ok-check_fresh.ensures.fresh) c.new.ensures.plan c.new.ensures.journal
