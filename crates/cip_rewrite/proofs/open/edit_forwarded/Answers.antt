use Rattle.std.proofs.Common.{arith}
use Rattle.cip_rewrite.proofs.Edited.{open_lowered}
use Rattle.cip_rewrite.proofs.open.edit_forwarded.Goals as goal

pub returns : goal.returns
returns c =
    λ s x y z w o e.
    open_lowered c.args.large s x y z w o c.args.down_id c.words_place.result c.args.words c.args.message.now c.write_u32.new.buf
    (omega arith) c.words_place.ensures e c.write_u32.ensures
