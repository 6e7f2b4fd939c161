use Rattle.std.proofs.Common.{sym, subst, ◌+◌}
use Rattle.cip_segment.specs.Spelling.{IsReadable}
use Rattle.cip_rewrite.proofs.Shortened.{to_end}
use Rattle.cip_rewrite.proofs.going.left_behind.Goals as goal

pub invariant_of-path : goal.invariant_of-path
invariant_of-path c = record { readable = subst IsReadable (sym (to_end (c.args.start + c.args.fixed) c.args.bytes.now)) c.requires.1.readable }
