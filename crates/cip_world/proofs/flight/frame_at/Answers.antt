use Rattle.std.proofs.Common.{◌∙◌, sym, ap, Option}
use Rattle.cip_world.specs.declared.journal.Entry.{Entry}
use Rattle.cip_world.specs.Journals.{sent_by}
use Rattle.cip_world.proofs.Placed.{placed}
use Rattle.cip_world.proofs.flight.frame_at.Goals as goal

pub returns : goal.returns
returns c = c.sent_frame.ensures ∙ ap (λ (o : Option Entry). sent_by o c.args.name.output) (sym (placed c.args.entries.now c.args.name.entry))
