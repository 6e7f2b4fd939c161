use Rattle.std.proofs.Common.{length}
use Rattle.cip_book.proofs.view.feed.Given as goal

abbrev pub decreases-loop-end : goal.decreases-loop-end
decreases-loop-end g l = length l.rest
