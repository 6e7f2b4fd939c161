use Rattle.std.proofs.Common.{subst, sym}
use Rattle.cip_segment.specs.Spelling.{IsReadable}
use Rattle.cip_segment.proofs.view.PathView.to_path.Goals as goal

pub invariant_of-result : goal.invariant_of-result
invariant_of-result c = subst IsReadable (sym c.in_ok-bytes.ensures.items) c.args.self.readable
