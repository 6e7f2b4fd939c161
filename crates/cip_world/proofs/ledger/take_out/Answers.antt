use Rattle.std.proofs.Common.{sym, ap, ◌∙◌, Option, not, filter}
use Rattle.cip_event.specs.declared.frame.FrameName.{FrameName}
use Rattle.cip_world.specs.Journals.{is_that}
use Rattle.cip_world.proofs.Waits.{none_out}
use Rattle.cip_world.proofs.ledger.take_out.Goals as goal

pub returns-in_default : goal.returns-in_default
returns-in_default c =
    sym (none_out c.args.listed.now) ∙ ap (λ (o : Option FrameName). filter (λ f. not (is_that f o)) c.args.listed.now) (sym c.in_default.is)
