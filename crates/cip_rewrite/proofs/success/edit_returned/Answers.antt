use Rattle.std.proofs.Common.{refl, arith}
use Rattle.cip_rewrite.proofs.Edited.{success_raised}
use Rattle.cip_rewrite.proofs.success.edit_returned.Goals as goal

pub returns : goal.returns
returns c =
    λ service x y w s e.
    success_raised service x y w s c.args.up_id c.args.their_id c.args.message.now _ c.write_u32.new.buf c.write_u32-2.new.buf (omega arith) (omega arith) e
    c.write_u32.ensures refl c.write_u32-2.ensures
