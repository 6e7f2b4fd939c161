use Rattle.std.proofs.Common.{length}
use Rattle.cip_decode.proofs.bytes.PairsDisplay.fmt.Given as goal

abbrev pub decreases-parts : goal.decreases-parts
decreases-parts g l = length l.rest
