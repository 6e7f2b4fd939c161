use Rattle.std.proofs.Common.{length}
use Rattle.cip_book.proofs.opens.Way.follow.Given as goal

abbrev pub decreases-loop-first : goal.decreases-loop-first
decreases-loop-first l = length l.left.bytes.now
