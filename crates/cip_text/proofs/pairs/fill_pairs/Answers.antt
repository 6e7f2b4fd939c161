use Rattle.std.proofs.Common.{arith, slice_index}
use Rattle.hex.specs.Hex.{upper_digits}
use Rattle.cip_text.proofs.Digits.{PAIRS_at, encode_step, encode_done}
use Rattle.cip_text.proofs.pairs.fill_pairs.Goals as goal

pub bytes-preserved : goal.bytes-preserved
bytes-preserved c =
    let pair = PAIRS_at (slice_index c.args.bytes.now c.bytes.i) (omega arith) in
    encode_step upper_digits c.args.bytes.now c.bytes.output c.bytes.i _ _ (omega arith) (omega arith) pair.0 pair.1 c.bytes.invariant

pub returns : goal.returns
returns c = encode_done _ _ _ c.bytes.i (omega arith) (omega arith) c.bytes.invariant
