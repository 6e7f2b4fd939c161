use Rattle.std.proofs.Common.{◌≡◌, length}
use Rattle.cip_segment.specs.Reading.{segments_of}
use Rattle.cip_target.specs.ApplicationPath.{without_inhibits}
use Rattle.cip_target.proofs.application.split.Given as goal

abbrev pub invariant-loop-first : goal.invariant-loop-first
invariant-loop-first l = without_inhibits (segments_of l.left.bytes.now) ≡ without_inhibits (segments_of l.fn.path.bytes.now)

abbrev pub decreases-loop-first : goal.decreases-loop-first
decreases-loop-first l = length (segments_of l.left.bytes.now)
