use Rattle.cip_target.proofs.Resets.{clear_step, clear_end}
use Rattle.cip_target.proofs.assemblies.clear_all.Goals as goal

pub loop-entry-preserved : goal.loop-entry-preserved
loop-entry-preserved c =
    clear_step c.args.held.now c.loop-entry.held c.loop-entry.entry-index c.entry-item.result c.clear.new.self c.loop-entry-test.true
    c.loop-entry.invariant c.entry-item.is c.clear.ensures

pub returns : goal.returns
returns c =
    clear_end c.args.held.now c.loop-entry.held c.loop-entry.entry-index c.loop-entry.auto.entry-index-end c.loop-entry-test.false
    c.loop-entry.invariant
