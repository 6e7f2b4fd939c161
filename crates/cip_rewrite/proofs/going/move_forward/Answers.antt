use Rattle.std.proofs.Common.{◌≡◌, arith}
use Rattle.cip_rewrite.proofs.Shortened.{stays}
use Rattle.cip_rewrite.proofs.going.move_forward.Goals as goal

pub returns-else-from-to : goal.returns-else-from-to
returns-else-from-to c =
    stays c.args.bytes.now c.args.from c.args.count c.args.to (let e : c.args.from ≡ c.args.to = omega arith in e) c.requires.within
