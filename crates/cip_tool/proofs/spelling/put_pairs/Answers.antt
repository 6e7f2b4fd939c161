use Rattle.std.proofs.Common.{arith}
use Rattle.cip_tool.proofs.Texts.{pairs_step, pairs_done}
use Rattle.cip_tool.proofs.spelling.put_pairs.Goals as goal

pub loop-byte-preserved : goal.loop-byte-preserved
loop-byte-preserved c =
    pairs_step _ _ _ c.args.bytes.now c.loop-byte.byte-index (omega arith) c.in_ok-put_pair.ensures c.loop-byte.invariant

pub returns : goal.returns
returns c = pairs_done _ _ c.args.bytes.now c.loop-byte.byte-index (omega arith) c.loop-byte.invariant
