use Rattle.std.proofs.Common.{length}
use Rattle.cip_transcript.proofs.fits.+outputs_fit.Given as goal

abbrev pub decreases-outputs_fit : goal.decreases-outputs_fit
decreases-outputs_fit l = length l.outputs.now
