use Rattle.std.proofs.Common.{◌∙◌, sym}
use Rattle.cip_world.proofs.Spotted.{back_order, back_names}
use Rattle.cip_world.proofs.names.give_up_last.Goals as goal

pub loop-spots-preserved : goal.loop-spots-preserved
loop-spots-preserved c =
    let gone = sym c.is_last_gone.ensures ∙ c.loop-spots-test.true in (
      back_order c.loop-spots.spots.items c.pop_back.new.self.items c.pop_back.result c.loop-spots.invariant.0 c.pop_back.ensures.items,
      back_names c.loop-spots.spots.items c.pop_back.new.self.items c.pop_back.result gone c.pop_back.ensures.items ∙ c.loop-spots.invariant.1,
    )
