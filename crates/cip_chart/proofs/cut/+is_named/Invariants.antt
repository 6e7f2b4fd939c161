use Rattle.std.proofs.Common.{length}
use Rattle.cip_chart.proofs.cut.+is_named.Given as goal

abbrev pub decreases-is_named : goal.decreases-is_named
decreases-is_named l = length l.modules.now
