use Rattle.cip_text.proofs.Digits.{pairs_are_text}
use Rattle.cip_text.proofs.pairs.pairs_in.Goals as goal

pub unreachable-requires : goal.unreachable-requires
unreachable-requires c = c.in-Err.ensures.cases.0 (rw c.fill_pairs.ensures (pairs_are_text c.args.bytes.now))
