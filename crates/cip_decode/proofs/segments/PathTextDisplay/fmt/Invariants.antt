use Rattle.std.proofs.Common.{length}
use Rattle.cip_decode.proofs.segments.PathTextDisplay.fmt.Given as goal

abbrev pub decreases-loop-first : goal.decreases-loop-first
decreases-loop-first g l = length l.rest.bytes.now
