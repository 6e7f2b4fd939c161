use Rattle.cip_rewrite.proofs.Edited.{send_lowered}
use Rattle.cip_rewrite.proofs.unconnected.edit_forwarded.Goals as goal

pub returns : goal.returns
returns c =
    λ s w x padding u len plen e.
    send_lowered s w x c.args.size padding u c.args.words c.args.message.now c.lower_end.new.end len e
    (c.lower_end.ensures padding u.route w x plen)
