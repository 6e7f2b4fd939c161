use Rattle.cip_rewrite.proofs.Edited.{close_lowered}
use Rattle.cip_rewrite.proofs.close.edit_forwarded.Goals as goal

pub returns : goal.returns
returns c = λ s w x o e. close_lowered s w x o c.args.words c.args.message.now e
