use Rattle.std.proofs.Common.{◌∙◌, sym}
use Rattle.cip_world.proofs.Spotted.{front_order, front_names, front_last}
use Rattle.cip_world.proofs.names.give_up_first.Goals as goal

pub loop-spots-preserved : goal.loop-spots-preserved
loop-spots-preserved c =
    let gone = sym c.is_first_gone.ensures ∙ c.loop-spots-test.true in (
      front_order c.loop-spots.spots.items c.pop_front.new.self.items c.pop_front.result c.loop-spots.invariant.0 c.pop_front.ensures.items,
      front_names c.loop-spots.spots.items c.pop_front.new.self.items c.pop_front.result gone c.pop_front.ensures.items ∙ c.loop-spots.invariant.1,
      front_last c.loop-spots.spots.items c.pop_front.new.self.items c.pop_front.result c.loop-spots.invariant.2 c.pop_front.ensures.items,
    )
