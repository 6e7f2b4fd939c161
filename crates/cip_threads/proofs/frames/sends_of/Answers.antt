use Rattle.cip_threads.proofs.Sending.{sends_next}
use Rattle.cip_threads.proofs.frames.sends_of.Goals as goal

pub loop-output-preserved : goal.loop-output-preserved
loop-output-preserved c =
    sends_next c.args.topology.now c.args.at.0 c.args.entry c.loop-output.output c.args.outputs.now c.index-outputs-output.result c.loop-output.sends.items _ _
    c.loop-output-test.true c.index-outputs-output.is c.in_ok-push_send.ensures c.loop-output.invariant
