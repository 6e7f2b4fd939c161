use Rattle.std.proofs.Common.{rules, sym, ◌∙◌}
use Rattle.cip_threads.proofs.Holding.{idle_more}
use Rattle.cip_threads.proofs.state.first_full.Goals as goal

pub loop-i-preserved : goal.loop-i-preserved
loop-i-preserved c =
    idle_more c.args.hands.now c.loop-i.i c.index-hands-i.result (search rules) c.index-hands-i.is (sym c.is_some.ensures
    ∙ c.if-is_some.false) c.loop-i.invariant
